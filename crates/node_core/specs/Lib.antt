pub mod Node
pub mod Searches
pub mod Steps
pub mod Sound
pub mod Answers
pub mod Calls
pub mod Kept
