pub mod Ordered
pub mod Raised
pub mod First
pub mod Shown
pub mod History
