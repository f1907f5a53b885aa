pub mod AttemptEnds
pub mod CellAnswers
pub mod Chains
pub mod CopyAnswers
pub mod Headlines
pub mod KeptBooks
pub mod KeptEntries
