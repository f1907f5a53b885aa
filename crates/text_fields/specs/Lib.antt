pub mod Bases
pub mod Commands
pub mod Fields
pub mod KeptLines
pub mod Lines
pub mod Quick
pub use Rattle.model_jobs.specs.JobFiles
pub use Rattle.model_jobs.specs.Texts
