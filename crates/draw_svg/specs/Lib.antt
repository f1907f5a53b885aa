pub mod Begins
pub mod Files
pub mod Shapes
pub mod Templates
pub mod Texts
