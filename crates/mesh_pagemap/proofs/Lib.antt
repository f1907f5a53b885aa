pub mod Lookups
pub mod Changes
