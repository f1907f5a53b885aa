pub mod BitsLemmas
pub mod TwoSets
pub mod FourLanes
