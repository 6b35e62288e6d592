pub mod Rows
pub mod Counted
pub mod Idle
pub mod Queued
pub mod Chains
