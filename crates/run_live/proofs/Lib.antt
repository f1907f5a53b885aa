pub mod IdleSessions
pub mod Runs
pub mod Stops
mod LiveFields
