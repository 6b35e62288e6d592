pub mod Settings
pub mod Words
pub mod Rows
pub mod Forms
