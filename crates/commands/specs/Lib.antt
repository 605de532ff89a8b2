pub mod Session
pub mod Answers
pub mod Texts
pub mod Commands
pub mod Ends
pub mod Laws
