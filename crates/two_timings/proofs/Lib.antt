-- lemmas
pub mod Fronts
pub mod Ordered
pub mod Conflicts
pub mod Effects
pub mod Acts
pub mod Folds
pub mod Values
pub mod Runs
pub mod OneTiming
pub mod TwoTimings
pub mod Programs
pub mod Example
