pub mod Settings
pub mod Resolve
pub mod Rows
pub mod Names
pub mod Six
