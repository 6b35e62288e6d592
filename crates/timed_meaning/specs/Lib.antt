pub mod Values
pub mod Block
pub mod Program
pub mod Cycles
pub mod Sound
pub mod Evaluator
