pub mod Strategies
pub mod Requests
pub mod Replies
pub mod Runs
pub mod Left
