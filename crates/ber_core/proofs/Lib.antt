pub mod Padded
pub mod Digits
pub mod Laws
pub mod Readers
pub mod Written
mod Values
pub mod Loops
pub mod Stable
pub mod Sound
pub mod Complete
pub mod CompleteMany
