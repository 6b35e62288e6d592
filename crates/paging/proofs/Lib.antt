pub mod Keys
pub mod Kept
pub mod Frames
pub mod Limits
pub mod Apart
