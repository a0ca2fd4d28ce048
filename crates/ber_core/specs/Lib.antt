pub mod Element
pub mod Number
pub mod Reading
pub mod Window
pub mod Spelling
pub mod Cursor
