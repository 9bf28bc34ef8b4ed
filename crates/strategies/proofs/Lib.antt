mod Hits
mod Tallies
mod Counts
mod Table
mod NameNumbers
mod SameStrategy
pub mod OneMore
mod SixSigns
mod Listed
mod Alike
