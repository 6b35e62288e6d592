-- lemmas
pub mod Sums
pub mod Walks
pub mod NamesSeen
pub mod HeaderKept
pub mod Described
pub mod Lists
pub mod Writable
pub mod Pushed
pub mod Unbroken
pub mod ReadWritten
pub mod ReadBack
pub mod NoneBroken
pub mod KeepsRules
