pub mod Tree
pub mod Values
pub mod Sorts
pub mod Substitution
pub mod Weights
pub mod Extents
pub mod Variables
pub mod Laws
