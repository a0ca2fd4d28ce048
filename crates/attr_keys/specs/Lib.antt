pub mod Laws
pub mod Name
pub mod Table
pub mod Value
