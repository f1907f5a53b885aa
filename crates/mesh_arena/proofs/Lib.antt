pub mod Changes
pub mod Counts
pub mod Given
pub mod Taken
pub mod Ties
pub mod Unmade
