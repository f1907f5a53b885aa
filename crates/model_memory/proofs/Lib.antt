mod Addresses
mod Calls
mod CopiedRanges
mod FirstPlaces
pub mod FittingCalls
pub mod Histories
pub mod NamedObjects
pub mod Objects
mod RefusedCommands
pub mod RefusedReplies
mod Replies
mod RightReads
mod SeatedCalls
mod SettledSeats
mod ToldReads
pub mod WovenCalls
