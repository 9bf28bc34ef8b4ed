pub mod Rows
pub mod Changes
pub mod Rooms
pub mod Views
