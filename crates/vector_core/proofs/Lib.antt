pub mod Lists
pub mod Greatests
pub mod Entries
pub mod Texts
