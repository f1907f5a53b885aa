pub mod Added
pub mod Quotes
pub mod Reasons
pub mod Sentences
pub mod Truths
