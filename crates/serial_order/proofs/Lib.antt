-- lemmas
pub mod Cells
pub mod Members
pub mod Counting
pub mod Stuck
pub mod Front
pub mod Existence
pub mod Progress
pub mod Earlier
pub mod Onto
