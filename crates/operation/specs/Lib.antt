pub mod Ranges
pub mod Places
pub mod Arithmetic
pub mod Effects
pub mod Laws
