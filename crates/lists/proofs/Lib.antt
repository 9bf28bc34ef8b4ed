pub mod Sums
pub mod Kept
