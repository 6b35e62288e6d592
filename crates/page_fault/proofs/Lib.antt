pub mod Keeping
pub mod Fetched
pub mod Needing
pub mod Whole
