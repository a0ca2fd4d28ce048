pub mod StableMessage
pub mod SoundMessage
pub mod CompleteParts
pub mod CompleteFilter
pub mod CompleteMessage
pub mod Rows
