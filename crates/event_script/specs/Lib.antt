pub mod Fields
pub mod Script
pub mod Faults
pub mod Left
