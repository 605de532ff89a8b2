pub mod Tree
pub mod Spelling
pub mod Front
pub mod Laws
pub mod Reading
