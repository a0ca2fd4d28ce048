pub mod Keys
pub mod Placed
pub mod Left
pub mod History
