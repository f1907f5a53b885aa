pub use Rattle.model_memory.specs.Plain
pub use Rattle.model_memory.specs.Reads
pub use Rattle.model_memory.specs.Seats
pub mod RecordedCalls
pub mod Seat
pub mod Settle
pub mod CallBudgets
pub mod Walk
