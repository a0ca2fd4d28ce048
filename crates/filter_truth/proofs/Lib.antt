pub mod Entries
pub mod Equations
pub mod Greedy
pub mod LentShows
pub mod GoneShows
pub mod Names
pub mod Untold
