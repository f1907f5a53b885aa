pub use Rattle.model_heap.specs.Mesh
pub use Rattle.model_heap.specs.Table
pub mod Progress
pub mod Running
pub mod StepOrders
