pub mod Rows
pub mod Lines
pub mod Along
