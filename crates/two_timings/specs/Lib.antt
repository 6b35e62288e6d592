pub mod Timing
pub mod Before
pub mod Law
pub mod Example
