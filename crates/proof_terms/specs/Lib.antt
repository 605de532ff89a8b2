pub mod Tree
pub mod Size
pub mod Holes
pub mod Paths
pub mod Search
pub mod Laws
