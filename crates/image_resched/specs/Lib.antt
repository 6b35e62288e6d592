pub mod Rescheduled
pub mod Laws
pub mod Forms
