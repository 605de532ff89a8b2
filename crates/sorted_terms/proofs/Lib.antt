pub mod Sizes
pub mod Reversal
pub mod Places
pub mod Saturation
pub mod Lookups
pub mod Substituting
pub mod Past
pub mod Weighing
