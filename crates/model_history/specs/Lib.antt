pub mod Recorded
pub mod RecordedLaws
