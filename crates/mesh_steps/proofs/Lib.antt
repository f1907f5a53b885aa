pub mod AlwaysHolds
pub mod Copies
pub mod MadeObjects
pub mod MeshHeaps
pub mod Objects
pub mod Stores
