-- lemmas
pub mod Choices
pub mod Tails
pub mod Table
pub mod Mnemonics
pub mod Readings
pub mod GuardedIn
pub mod Packing
pub mod Issues
pub mod Bounds
pub mod OperationNames
