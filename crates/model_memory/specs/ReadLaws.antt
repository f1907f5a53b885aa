-- What holds of the history built from a journal and its seats, and that at most one read is reported, with examples of
-- both.
use Rattle.std.specs.Prelude.{◌≡◌, ℕ, ◌<◌, ◌≤◌, true, false, List, [], ◌∷◌, Some, None, map, length}
use Rattle.std.specs.List.{All}
use Rattle.model_memory.specs.Memory.{Memory, empty_memory, next_serial}
use Rattle.model_memory.specs.Plain.{Entry, IsLegal}
use Rattle.model_memory.specs.Seats.{SeatDiffers, calls_of}
use Rattle.model_words.specs.declared.commands.Command.TheVariants.{New, Get, Alias}
use Rattle.model_words.specs.declared.commands.Reply.TheVariants.{Object as Made, Done, Bytes}
use Rattle.model_memory.specs.Reads.{Kept, ReadDiffers, AreRight, built, call_of, is_marked, is_out_of_place, kept_by, memory_after, places_from, read_reply, recorded}

-- the journal is legal, only reads saw a length, each seat's recorded calls are its worker's entries, and each entry's
-- worker has a seat
pub record IsTold (seats : List (List Kept)) (entries : List Entry) (end : Memory) : Type 0 where
  pub legal : IsLegal entries end
  pub marked : (w : ℕ) → All is_marked (kept_by seats w)
  pub own : (w : ℕ) → w < length seats → recorded (kept_by seats w) ≡ calls_of w entries
  pub known : All (λ entry. entry.worker < length seats) entries

-- if `IsTold` holds and all reads are right, the built history is legal and ends with the journal's end memory
abbrev pub BuiltIsLegal : Type 0
BuiltIsLegal = (seats : List (List Kept)) (entries : List Entry) (end : Memory) → IsTold seats entries end → AreRight seats entries
    → IsLegal (built seats entries) end

-- if `IsTold` holds and all reads are right, a worker's entries in the built history are the calls of the worker's
-- seat, in their order
abbrev pub BuiltHasCalls : Type 0
BuiltHasCalls = (seats : List (List Kept)) (entries : List Entry) (end : Memory) → IsTold seats entries end → AreRight seats entries
    → (w : ℕ) → w < length seats → calls_of w (built seats entries) ≡ map call_of (kept_by seats w)

-- if each worker with an entry in the journal has a seat, each worker with an entry in the built history has a seat
abbrev pub BuiltHasNoOther : Type 0
BuiltHasNoOther = (seats : List (List Kept)) (entries : List Entry) → All (λ entry. entry.worker < length seats) entries
    → All (λ entry. entry.worker < length seats) (built seats entries)

-- if all reads are right, none is reported
abbrev pub RightDifferNowhere : Type 0
RightDifferNowhere = (seats : List (List Kept)) (entries : List Entry) (w i : ℕ) → AreRight seats entries → ReadDiffers seats entries w i → ⊥

-- at most one read is reported
abbrev pub ReadsDifferOnce : Type 0
ReadsDifferOnce = (seats : List (List Kept)) (entries : List Entry) (w i v j : ℕ) → ReadDiffers seats entries w i → ReadDiffers seats entries v j
    → (w ≡ v) × (i ≡ j)

-- the number of objects that entries make is at most the number of entries
abbrev pub FewAreMade : Type 0
FewAreMade = (entries : List Entry) → next_serial (memory_after empty_memory entries) ≤ length entries

-- calls for the examples: a `new`, an `alias`, and a read of a cell that saw `n` entries
abbrev new_call : Kept
new_call = record { command = New 0 8 0; reply = Made 0 4096; seen = None }

abbrev alias_call : Kept
alias_call = record { command = Alias 1 0; reply = Done; seen = None }

abbrev get_call : ℕ → ℕ → Kept
get_call cell n = record { command = Get cell 0 1; reply = Bytes (record { items = 0 ∷ [] }); seen = Some n }

-- the entry of a call
abbrev entry_of : ℕ → Kept → Entry
entry_of worker call = record { worker = worker; command = call.command; reply = call.reply }

-- if the journal is empty and a seat has a `new` recorded in another book, the seat differs at its first call
abbrev pub RecordedDiffers : Type 0
RecordedDiffers = SeatDiffers (map recorded ((new_call ∷ get_call 0 1 ∷ []) ∷ [] ∷ [])) [] 0 0

-- if the journal is empty and a seat has a read that saw one entry in another book, this read is reported
abbrev pub StrangeReadDiffers : Type 0
StrangeReadDiffers = ReadDiffers ((get_call 0 1 ∷ []) ∷ [] ∷ []) [] 0 0

-- if the journal has a `new` that was made with a seat not passed in, and the seats have no call, the worker's seat
-- differs at its first call
abbrev pub StrangeEntryDiffers : Type 0
StrangeEntryDiffers = SeatDiffers (map recorded ([] ∷ [] ∷ [])) (entry_of 0 new_call ∷ []) 0 0

-- a `new`, an `alias` and a read through the alias make a history of three entries, and the read is right
abbrev pub ThreeEntries : Type 0
ThreeEntries =
    (built ((new_call ∷ alias_call ∷ get_call 1 2 ∷ []) ∷ [] ∷ []) (entry_of 0 new_call ∷ entry_of 0 alias_call ∷ [])
    ≡ entry_of 0 new_call ∷ entry_of 0 alias_call ∷ entry_of 0 (get_call 1 2) ∷ [])
    × (is_out_of_place (places_from 0 0 (entry_of 0 new_call ∷ entry_of 0 alias_call ∷ [])) 2 (new_call ∷ alias_call ∷ []) 2 ≡ false)
    × (read_reply (memory_after empty_memory (entry_of 0 new_call ∷ entry_of 0 alias_call ∷ [])) (Get 1 0 1) ≡ (get_call 1 2).reply)

-- if two reads saw equally many entries, the read of the lower seat comes first
abbrev pub LowerSeatFirst : Type 0
LowerSeatFirst = built ((get_call 0 1 ∷ []) ∷ (new_call ∷ get_call 0 1 ∷ get_call 1 1 ∷ []) ∷ []) (entry_of 1 new_call ∷ [])
    ≡ entry_of 1 new_call ∷ entry_of 0 (get_call 0 1) ∷ entry_of 1 (get_call 0 1) ∷ entry_of 1 (get_call 1 1) ∷ []

-- reads out of place and in place, next to each bound: an earlier read, an earlier recorded call, the next recorded
-- call, and the journal's length
abbrev pub PlacesOfReads : Type 0
PlacesOfReads =
    (map (is_out_of_place [] 5 (get_call 0 3 ∷ [])) (2 ∷ 3 ∷ []) ≡ true ∷ false ∷ [])
    × (map (is_out_of_place (2 ∷ []) 5 (new_call ∷ [])) (2 ∷ 3 ∷ []) ≡ true ∷ false ∷ [])
    × (map (is_out_of_place (2 ∷ []) 5 []) (3 ∷ 2 ∷ []) ≡ true ∷ false ∷ [])
    × (map (is_out_of_place [] 5 []) (6 ∷ 5 ∷ []) ≡ true ∷ false ∷ [])
