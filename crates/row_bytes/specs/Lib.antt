pub mod Form
pub mod Place
pub mod Grammar
pub mod Given
pub mod Stored
pub mod Laws
