-- lemmas
pub mod GuardedParts
pub mod EffectRanges
pub mod WiredFamilies
pub mod PlaceLaws
