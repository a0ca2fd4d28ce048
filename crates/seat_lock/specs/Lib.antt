pub mod Counts
pub mod Histories
pub mod Turns
pub mod Seats
