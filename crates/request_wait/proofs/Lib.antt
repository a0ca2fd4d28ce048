pub mod Stays
pub mod Steps
pub mod Fuel
pub mod Firsts
pub mod Filters
pub mod Forms
pub mod Places
pub mod Runs
