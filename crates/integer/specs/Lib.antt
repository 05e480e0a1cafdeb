pub mod Spelling
pub mod Integer
