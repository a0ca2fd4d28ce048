pub mod Sums
pub mod Counted
pub mod Moved
pub mod Trees
