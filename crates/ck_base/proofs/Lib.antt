pub mod Files
pub mod Declarations
