pub mod Commands
pub mod Entries
pub mod Judged
mod Kept
pub mod Laws
pub mod Lines
pub mod Loads
mod Overwritten
pub mod Ranges
pub mod ReasonTexts
pub mod Roots
mod Runs
pub mod Trees
