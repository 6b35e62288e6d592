pub mod Names
pub mod Places
pub mod Data
pub mod Blocks
pub mod Causes
pub mod Assembly
pub mod Gathered
