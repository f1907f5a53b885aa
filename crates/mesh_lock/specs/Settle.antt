-- The history that is returned at the end, and the errors that prevent this.
use Rattle.std.specs.Prelude.{◌≡◌, ℕ, ◌<◌, List, None, Some, map}
use Rattle.std.specs.List.{All}
use Rattle.model_memory.specs.Memory.{Memory}
use Rattle.model_memory.specs.Plain.{Entry, IsLegal}
use Rattle.model_memory.specs.Reads.{AreRight, ReadDiffers, built, call_of, kept_by, recorded}
use Rattle.model_memory.specs.Seats.{AreSettled, Call, SeatDiffers, calls_of, missing_seat}
use Rattle.mesh_lock.specs.Seat.{Seat, calls_of_seats, numbers_of}
use Rattle.mesh_lock.specs.declared.faults.FinishError.{FinishError}
use Rattle.mesh_lock.specs.declared.faults.FinishError.TheVariants.{Memory as NoMemory, ReadDiffers as ReadError, SeatDiffers as SeatError, SeatMissing}

-- the recorded calls of each seat: all but its reads
abbrev pub recorded_of : List Seat → List (List Call)
recorded_of seats = map recorded (calls_of_seats seats)

-- the history of journal and seats: it is legal and ends in this memory. Each worker's entries are the calls of the
-- worker's seat, in their order, and no other worker has an entry
pub record IsEnd (count : ℕ) (seats : List Seat) (entries history : List Entry) (end : Memory) : Type 0 where
  pub seated : missing_seat count (numbers_of seats) entries ≡ None
  pub settled : AreSettled count (recorded_of seats) entries
  pub right : AreRight (calls_of_seats seats) entries
  pub is_built : history ≡ built (calls_of_seats seats) entries
  pub legal : IsLegal history end
  pub calls : (w : ℕ) → w < count → calls_of w history ≡ map call_of (kept_by (calls_of_seats seats) w)
  pub no_other : All (λ entry. entry.worker < count) history

-- the reported error occurs, and no error that is looked for earlier does
abbrev pub IsFault : ℕ → List Seat → List Entry → FinishError → Type 0
IsFault count seats entries (SeatMissing w) = missing_seat count (numbers_of seats) entries ≡ Some w
IsFault count seats entries (SeatError w i) =
    (missing_seat count (numbers_of seats) entries ≡ None) × (w < count) × SeatDiffers (recorded_of seats) entries w i
IsFault count seats entries (ReadError w i) =
    (missing_seat count (numbers_of seats) entries ≡ None) × AreSettled count (recorded_of seats) entries × (w < count)
    × ReadDiffers (calls_of_seats seats) entries w i
IsFault count seats entries NoMemory = (missing_seat count (numbers_of seats) entries ≡ None) × AreSettled count (recorded_of seats) entries
