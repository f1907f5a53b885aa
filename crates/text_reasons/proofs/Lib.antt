pub mod PartTexts
