pub mod SliceExamples
pub mod SliceLaws
pub mod Slices
pub mod TakenLines
pub mod Witnesses
