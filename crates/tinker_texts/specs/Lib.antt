pub mod Report
pub mod Looks
pub mod Refusals
pub mod Help
