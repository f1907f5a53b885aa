mod Candidates
pub mod Searches
pub mod Shuffles
