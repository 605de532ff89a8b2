pub mod Programs
pub mod Runs
pub mod Proves
pub mod Valid
pub mod Laws
