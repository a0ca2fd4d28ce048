pub mod Above
pub mod Commit
