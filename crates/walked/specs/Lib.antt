pub mod Starts
pub mod Taking
pub mod Defaults
pub mod Distances
pub mod Asked
