pub mod Line
pub mod Output
pub mod Print
pub mod Spelling
pub mod Words
