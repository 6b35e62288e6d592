-- lemmas
pub mod Rearranged
pub mod Likeness
pub mod Shapes
pub mod Walking
