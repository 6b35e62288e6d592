pub mod Context
pub mod Needs
pub mod System
pub mod Turns
pub mod Meant
pub mod Pages
pub mod Example
