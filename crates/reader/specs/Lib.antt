pub mod Lists
pub mod Sessions
pub mod Standing
