pub mod Three
pub mod Pieces
pub mod Behind
pub mod Truth
pub mod Prepared
pub mod Lent
