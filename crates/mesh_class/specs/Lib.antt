pub use Rattle.model_words.specs.Classes
pub use Rattle.model_words.specs.Refusals
pub mod Class
