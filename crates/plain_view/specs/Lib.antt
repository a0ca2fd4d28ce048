pub mod Seen
pub mod Listing
pub mod Growth
