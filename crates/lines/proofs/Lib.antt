mod Letters
mod OneStrategy
mod Columns
mod Pieces
mod Groups
mod Containers
mod WrittenLines
pub mod ReadBack
