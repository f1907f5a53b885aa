pub mod CompletionLaws
pub mod Completions
pub mod ExampleLaws
pub mod Intervals
pub mod KeyedOrders
pub mod LocalityLaws
pub mod Objects
pub mod OverlappingCalls
