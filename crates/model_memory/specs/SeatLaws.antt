-- Which seat is missing, and where the calls of seats differ from the entries, stated without a search.
use Rattle.std.specs.Prelude.{◌≡◌, ℕ, List, map, ◌<◌, false, [], ◌∷◌, Some, None, slice_get, ◌≢◌, ◌↔◌, ◌≤◌, ◌⊎◌, length}
use Rattle.model_memory.specs.Plain.{Entry}
use Rattle.model_memory.specs.Seats.{calls_of, commands_of, Call, DifferFirstAt, has_stranger, missing_seat, AreSettled, SeatDiffers}
use Rattle.model_words.specs.declared.commands.Command.{Command}
use Rattle.model_words.specs.declared.commands.Reply.{Reply}

-- each place below this one has its own seat: the seat with the place's number
abbrev pub AreSeatedBelow : List ℕ → ℕ → Type 0
AreSeatedBelow numbers place = (k : ℕ) → k < place → slice_get numbers k ≡ Some k

-- there are more seats than `count`, or there is an entry of a worker whose number isn't below `count`
abbrev pub HasStranger : ℕ → List ℕ → List Entry → Type 0
HasStranger count numbers entries =
    (count < length numbers) ⊎ ((i : ℕ) × (entry : Entry) × (slice_get entries i ≡ Some entry) × (count ≤ entry.worker))

-- `w` is the lowest place below the count that doesn't have its own seat
abbrev pub IsLeastUnseated : ℕ → List ℕ → ℕ → Type 0
IsLeastUnseated count numbers w = (w < count) × AreSeatedBelow numbers w × (slice_get numbers w ≢ Some w)

-- `w` is the count, all places below the count have their own seats, and there is a stranger
abbrev pub IsCountWithStranger : ℕ → List ℕ → List Entry → ℕ → Type 0
IsCountWithStranger count numbers entries w = (w ≡ count) × AreSeatedBelow numbers count × HasStranger count numbers entries

-- `missing_seat` returns `w` if and only if `IsLeastUnseated` or `IsCountWithStranger` holds for `w`
abbrev pub MissingIsLeast : Type 0
MissingIsLeast = (count : ℕ) (numbers : List ℕ) (entries : List Entry) (w : ℕ) → (missing_seat count numbers entries ≡ Some w)
    ↔ (IsLeastUnseated count numbers w ⊎ IsCountWithStranger count numbers entries w)

-- no seat is missing if and only if each place below the count has its own seat and there is no stranger
abbrev pub NoneIsMissing : Type 0
NoneIsMissing = (count : ℕ) (numbers : List ℕ) (entries : List Entry) → (missing_seat count numbers entries ≡ None)
    ↔ (AreSeatedBelow numbers count × (HasStranger count numbers entries → ⊥))

-- seats have at most one first difference from the entries: one call of one seat
abbrev pub SeatsDifferOnce : Type 0
SeatsDifferOnce = (seats : List (List Call)) (entries : List Entry) (w i v j : ℕ) → SeatDiffers seats entries w i → SeatDiffers seats entries v j
    → (w ≡ v) × (i ≡ j)

-- if all seats below the count are settled, no seat below the count differs from the entries
abbrev pub SettledDifferNowhere : Type 0
SettledDifferNowhere = (count : ℕ) (seats : List (List Call)) (entries : List Entry) (w i : ℕ) → AreSettled count seats entries → w < count
    → SeatDiffers seats entries w i → ⊥

-- some seat below the count differs from the entries, first at call `i`
pub record SomeDiffers (count : ℕ) (seats : List (List Call)) (entries : List Entry) : Type 0 where
  pub w : ℕ
  pub i : ℕ
  pub below : w < count
  pub differs : SeatDiffers seats entries w i

-- all seats below the count are settled, or one of them differs from the entries
abbrev pub SeatsSettleOrDiffer : Type 0
SeatsSettleOrDiffer = (count : ℕ) (seats : List (List Call)) (entries : List Entry) → AreSettled count seats entries ⊎ SomeDiffers count seats entries

-- the commands of a worker's calls are the commands of the worker's entries
abbrev pub CallsHaveCommands : Type 0
CallsHaveCommands = (worker : ℕ) (entries : List Entry) → map (λ call. call.command) (calls_of worker entries) ≡ commands_of worker entries

-- if no seat is missing, each place below the count has its own seat, there is no other seat, and no entry is of
-- another worker
abbrev pub SeatsAreAll : Type 0
SeatsAreAll = (count : ℕ) (numbers : List ℕ) (entries : List Entry) → missing_seat count numbers entries ≡ None
    → ((k : ℕ) → k < count → slice_get numbers k ≡ Some k) × (has_stranger count numbers entries ≡ false)

-- if seats are out of order or too few, the lowest place without its own seat is reported
abbrev pub SwappedSeatsAreMissing : Type 0
SwappedSeatsAreMissing = (missing_seat 2 (1 ∷ 0 ∷ []) [] ≡ Some 0) × (missing_seat 2 (0 ∷ []) [] ≡ Some 1)

-- if there are too many seats, the count is reported
abbrev pub StrangersAreMissing : Type 0
StrangersAreMissing = (entries : List Entry) → missing_seat 2 (0 ∷ 1 ∷ 0 ∷ []) entries ≡ Some 2

-- with an entry of the last worker that has a seat, no seat is missing. With an entry of the first worker that has no
-- seat, the count is reported
abbrev pub EntriesHaveSeats : Type 0
EntriesHaveSeats = (command : Command) (reply : Reply)
    → (missing_seat 2 (0 ∷ 1 ∷ []) (record { worker = 1; command = command; reply = reply } ∷ []) ≡ None)
    × (missing_seat 2 (0 ∷ 1 ∷ []) (record { worker = 2; command = command; reply = reply } ∷ []) ≡ Some 2)

-- two lists of calls have at most one first difference
abbrev pub FirstDifferenceIsOne : Type 0
FirstDifferenceIsOne = (theirs ours : List Call) (i j : ℕ) → DifferFirstAt theirs ours i → DifferFirstAt theirs ours j → i ≡ j
