pub mod Answers
pub mod LineRows
pub mod Runs
pub mod Sessions
pub mod LiveLines
