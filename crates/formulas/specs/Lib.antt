pub mod Tree
pub mod Truth
pub mod Computed
pub mod Sorts
pub mod Substitution
pub mod Context
pub mod Laws
