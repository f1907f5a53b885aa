pub mod Packed
pub mod Runs
