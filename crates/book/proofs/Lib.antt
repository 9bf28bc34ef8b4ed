pub mod Changed
pub mod Memory
pub mod Asked
