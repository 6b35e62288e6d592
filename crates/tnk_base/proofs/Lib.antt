-- lemmas
pub mod ReadWritten
pub mod Searches
