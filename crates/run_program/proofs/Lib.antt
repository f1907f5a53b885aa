mod CertificateEnds
mod CertificateStops
pub mod CheckEnds
mod Dispatched
pub mod ExploreEnds
pub mod FirstWords
pub mod Messages
pub mod SavingsEnds
pub mod ThreadEnds
mod TwoClauses
mod UnopenedLines
pub mod WordCounts
