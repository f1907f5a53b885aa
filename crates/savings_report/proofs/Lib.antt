pub mod Columns
mod CourseLemmas
mod FigureLemmas
pub mod FollowedInputs
mod MomentLemmas
pub mod PerfectPages
mod PieceLemmas
mod PlotTexts
mod PlotWindows
pub mod Results
pub mod RunSteps
pub mod SampleTables
mod SpanLemmas
pub mod TableWindows
