mod Cuts
mod Feeds
pub mod Counts
