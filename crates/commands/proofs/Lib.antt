pub mod Transfers
pub mod Lines
pub mod Sessions
pub mod Determined
pub mod Decided
