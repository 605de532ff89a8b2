pub mod Readers
pub mod Numbers
pub mod Trees
pub mod Whole
