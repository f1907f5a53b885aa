pub mod Paths
pub mod Runs
