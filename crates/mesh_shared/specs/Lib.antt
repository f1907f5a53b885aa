pub mod Counts
pub mod Joined
pub mod MesherRuns
pub mod RunLaws
pub mod Runs
pub mod Services
pub mod Stops
