pub mod Stream
pub mod Whole
pub mod First
pub mod Serving
pub mod Comparing
pub mod Feeding
pub mod Waiting
pub mod Machine
