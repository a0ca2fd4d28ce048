pub mod Values
pub mod Back
pub mod BackMessage
pub mod Found
pub mod FoundMessage
pub mod Stay
pub mod Written
