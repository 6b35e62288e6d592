pub mod Links
pub mod Cover
pub mod Laws
pub mod Idle
