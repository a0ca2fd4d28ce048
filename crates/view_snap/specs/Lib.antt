pub mod Listed
pub mod Maps
pub mod Shown
pub mod Told
