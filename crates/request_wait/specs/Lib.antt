pub mod Table
pub mod Inside
pub mod Place
pub mod Comes
pub mod Waiting
