pub mod Accepted
pub mod Causes
pub mod Memory
pub mod Rows
