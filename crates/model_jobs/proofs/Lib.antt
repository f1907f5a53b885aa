mod AnsweredCommands
mod CommandLines
pub mod FieldReadings
pub mod Fields
mod JobHistories
mod JobPages
mod JobReplies
pub mod LineReadings
mod Readings
mod RefusedReplies
mod SpelledFields
mod TextReadings
