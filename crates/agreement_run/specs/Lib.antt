pub mod Front
pub mod Sides
pub mod Waiting
pub mod Turn
pub mod Running
pub mod Laws
