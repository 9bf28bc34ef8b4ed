pub mod Sound
pub mod Joins
pub mod Leaves
