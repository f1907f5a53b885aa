pub mod Decimals
mod DigitTable
pub mod Digits
pub mod FewFields
pub mod HexFields
pub mod KeptLines
pub mod LineSteps
pub mod QuickFields
pub mod Sames
pub mod Splits
pub mod Unread
