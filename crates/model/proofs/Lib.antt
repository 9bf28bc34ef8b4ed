pub mod Standing
pub mod Lasting
pub mod Circles
mod CountedRows
pub mod Counting
mod GrantBounds
pub mod Bounds
pub mod FromRows
