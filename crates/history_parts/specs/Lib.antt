pub mod Products
pub mod Aside
pub mod Parts
pub mod Splits
