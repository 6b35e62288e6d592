pub mod Draws
pub mod Operations
pub mod Words
pub mod Layout
pub mod Adding
pub mod Generated
pub mod Laws
