pub mod Classes
pub mod Commands
pub mod Faults
pub mod Refusals
pub mod Replies
pub mod Words
