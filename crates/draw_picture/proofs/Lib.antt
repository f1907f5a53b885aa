mod Captions
mod Heads
pub mod Rows
