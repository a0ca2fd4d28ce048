pub mod Entries
pub mod Spots
pub mod Moves
pub mod Paths
pub mod Listed
pub mod Walks
pub mod Users
