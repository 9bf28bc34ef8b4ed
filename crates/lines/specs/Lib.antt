pub mod FaultNumbers
pub mod Lines
pub mod Writing
pub mod Laws
