pub mod Pieces
pub mod Going
pub mod Turned
pub mod Ends
