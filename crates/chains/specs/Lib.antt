pub mod Chains
pub mod Tests
pub mod Table
pub mod Laws
pub mod Limits
