pub mod AnswersJudged
pub mod SpotBytes
pub mod TimedJudged
