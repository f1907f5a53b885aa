pub mod Chains
pub mod ClassSizes
pub mod LowestRefusals
pub mod Tests
