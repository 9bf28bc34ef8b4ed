mod Behind
mod Columns
