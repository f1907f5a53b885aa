pub mod Copies
pub mod Frames
pub mod Pages
pub mod Tied
