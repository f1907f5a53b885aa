pub mod Addresses
pub mod CommandTexts
pub mod RecordedTexts
pub mod RecordedWords
pub mod ReplyWords
pub use Rattle.model_words.specs.Commands
