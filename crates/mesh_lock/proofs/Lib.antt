pub mod BuiltHistories
mod ComparedCalls
pub mod MadeSeats
mod ReadPlaces
mod SeatPlaces
mod Settled
mod TakenReads
mod WalkPlaces
mod WalkRounds
