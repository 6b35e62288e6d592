pub mod Block
pub mod Form
pub mod Laws
pub mod Writing
