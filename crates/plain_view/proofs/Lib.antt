pub mod Views
pub mod Listings
pub mod Places
pub mod Grown
pub mod Added
