pub mod Derivation
pub mod Steps
pub mod Derived
pub mod Printing
pub mod Laws
