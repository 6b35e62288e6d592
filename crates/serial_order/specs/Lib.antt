pub mod Lists
pub mod SerialOrder
pub mod Table
pub mod Counts
pub mod Laws
