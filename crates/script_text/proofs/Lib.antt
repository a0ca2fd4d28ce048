pub mod Cuts
pub mod Found
pub mod Numbers
pub mod Numerals
pub mod Read
pub mod Writes
