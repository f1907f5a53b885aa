pub mod JobFiles
pub mod JobLaws
pub mod Jobs
pub mod ReaderLaws
pub mod RefusalLaws
pub mod TextLaws
pub mod Texts
