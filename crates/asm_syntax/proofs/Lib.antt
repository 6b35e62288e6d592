-- lemmas
pub mod Mapped
pub mod Slots
pub mod Choosing
pub mod Described
pub mod Tables
pub mod Numerals
pub mod Words
pub mod Lines
pub mod StatementLines
pub mod OneStatement
pub mod ReadIsSaid
pub mod KindKept
pub mod OperationRanges
