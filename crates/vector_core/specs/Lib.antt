pub mod Greatest
pub mod Vector
pub mod Text
