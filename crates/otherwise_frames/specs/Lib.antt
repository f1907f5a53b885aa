pub mod Frames
pub mod Copies
