mod Counted
mod Given
pub mod Steps
mod Widened
