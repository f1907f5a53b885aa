pub mod Always
pub mod Heap
pub mod HeapMeshes
