pub mod Causes
pub mod Edge
pub mod Doors
pub mod Memory
pub mod Standard
pub mod Machine
