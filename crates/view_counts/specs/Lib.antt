pub mod Counts
pub mod Tally
pub mod Planned
pub mod Audit
