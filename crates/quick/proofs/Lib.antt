pub mod Pairs
pub mod Reading
pub mod Adding
pub mod Arrivals
pub mod Gives
pub mod Bridge
