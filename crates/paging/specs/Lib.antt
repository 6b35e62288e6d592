pub mod Pages
pub mod Limits
pub mod Laws
pub mod Example
