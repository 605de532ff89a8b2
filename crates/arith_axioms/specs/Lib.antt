pub mod Axioms
pub mod Polynomials
pub mod Computing
pub mod Ring
pub mod Gathering
pub mod Laws
