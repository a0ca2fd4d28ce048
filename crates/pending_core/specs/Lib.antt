pub mod Draw
pub mod Pending
