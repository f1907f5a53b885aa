pub mod Points
pub mod Rows
