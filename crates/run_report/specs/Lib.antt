pub mod Script
pub mod Run
pub mod Setups
pub mod Seats
