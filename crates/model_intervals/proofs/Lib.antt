mod AccessKeys
mod AfterStep
mod AllEnded
pub mod ByObject
mod CellKeys
mod CellOrders
mod CellParts
mod CellRuns
mod CellStates
mod CellTimes
mod CompletionTests
mod ExampleTests
mod ExplainedTest
pub mod Filtered
mod FormToRun
mod FreedBetween
pub mod GivenKeys
mod HistoryTest
pub mod InTime
mod Joined
pub mod LaterCalls
pub mod Lists
mod MemoryChanges
mod Merged
mod MiddleForm
mod NoOrder
pub mod OneOrder
mod OnePicked
mod Permuted
pub mod Picked
mod Picks
pub mod Places
mod RunToForm
mod SomeWrong
mod SortedCalls
mod StepFacts
mod Steps
mod StepsBack
mod TimedParts
