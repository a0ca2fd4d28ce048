pub mod Sending
pub mod Going
