-- lemmas
pub mod Rows
pub mod Moved
pub mod Accepted
pub mod Same
pub mod Files
pub mod One
pub mod Deciding
pub mod Exists
pub mod Pages
pub mod Gathered
pub mod Shape
pub mod Lengths
