pub mod Scans
pub mod Readers
