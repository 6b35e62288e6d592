pub mod Core
pub mod Standing
pub mod Going
