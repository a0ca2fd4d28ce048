pub mod Entries
pub mod PageRows
pub mod Rising
pub mod Values
pub mod Starts
