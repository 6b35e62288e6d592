pub mod Texts
pub mod Reports
pub mod Cores
pub mod Scripts
pub mod Given
