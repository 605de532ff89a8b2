pub mod Tokens
pub mod Texts
pub mod Lines
pub mod Reading
pub mod Laws
