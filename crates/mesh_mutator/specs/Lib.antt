pub mod Attempts
pub mod Book
pub mod Codes
pub mod Headline
pub mod Journal
pub mod Mesher
pub mod PackedEntries
