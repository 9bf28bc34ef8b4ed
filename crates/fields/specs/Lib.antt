pub mod FaultNumbers
pub mod Fields
pub mod Names
pub mod Checks
pub mod Spelling
