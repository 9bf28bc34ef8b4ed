pub mod Blanks
mod Values
pub mod Spellings
pub mod NameFields
