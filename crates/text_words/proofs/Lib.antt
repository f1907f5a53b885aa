pub mod Addresses
pub mod Digits
pub mod PartTexts
