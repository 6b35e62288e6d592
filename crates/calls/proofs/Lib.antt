-- lemmas
pub mod Cached
pub mod Played
pub mod Scheduled
