-- The walk through a journal that builds the history of its seats, or reports the first wrong read.
use Rattle.std.specs.Prelude.{◌≡◌, ℕ, suc, ◌-◌, slice_index_or, slice_set, ◌<◌, ◌≤◌, Bool, true, false, List, [], ◌∷◌, ◌++◌, Option, Some, None, length, take}
use Rattle.std.specs.List.{All}
use Rattle.model_memory.specs.Memory.{Memory}
use Rattle.model_memory.specs.Plain.{Entry}
use Rattle.model_memory.specs.Reads.{Kept, ReadDiffers, kept_by, left_by, read_reply, reads_at}
use Rattle.mesh_lock.specs.declared.faults.FinishError.{FinishError}
use Rattle.mesh_lock.specs.declared.faults.FinishError.TheVariants.{Memory as NoMemory, ReadDiffers as ReadError, SeatDiffers as SeatError, SeatMissing}

-- the read saw `n` entries, and its reply is the memory's
abbrev pub IsAnswered : ℕ → Memory → Kept → Type 0
IsAnswered n m kept = (kept.seen ≡ Some n) × (kept.reply ≡ read_reply m kept.command)

-- why the walk stops before these calls. If `wrong`, the first is a wrong read that saw at most `n` entries. Otherwise
-- there is no call left, or the first is recorded, or it saw more than `n` entries
abbrev pub StopsAt : ℕ → Memory → Bool → List Kept → Type 0
StopsAt n m wrong [] = wrong ≡ false
StopsAt n m true (kept ∷ rest) = (seen : ℕ) × (kept.seen ≡ Some seen) × (seen ≤ n) × (IsAnswered n m kept → ⊥)
StopsAt n m false (kept ∷ rest) = (seen : ℕ) → kept.seen ≡ Some seen → n < seen

-- the calls taken from the front are right reads that saw `n` entries, and their entries were added
pub record IsTakenTo (n worker : ℕ) (m : Memory) (calls rest : List Kept) (before after : List Entry) : Type 0 where
  pub taken : List Kept
  pub split : calls ≡ taken ++ rest
  pub right : All (IsAnswered n m) taken
  pub pushed : after ≡ before ++ reads_at n worker taken

-- from each seat, the lower seats first, right reads that saw `n` entries were taken, and their entries added
abbrev pub AreTaken : ℕ → ℕ → Memory → List (List Kept) → List (List Kept) → List Entry → List Entry → Type 0
AreTaken n worker m [] [] before after = after ≡ before
AreTaken n worker m [] (left ∷ lefts) before after = ⊥
AreTaken n worker m (rest ∷ rests) [] before after = ⊥
AreTaken n worker m (rest ∷ rests) (left ∷ lefts) before after =
    (mid : List Entry) × IsTakenTo n worker m rest left before mid × AreTaken n (suc worker) m rests lefts mid after

-- right reads are taken from the front of `rest`, and the walk stops before `left`
pub record IsLeft (n : ℕ) (m : Memory) (wrong : Bool) (rest left : List Kept) : Type 0 where
  pub taken : List Kept
  pub split : rest ≡ taken ++ left
  pub right : All (IsAnswered n m) taken
  pub stops : StopsAt n m wrong left

-- the calls that are left of seat `w`
abbrev pub left_of : List (List Kept) → ℕ → List Kept
left_of rests w = slice_index_or rests w []

-- if no seat is named, the walk stops in each seat without a wrong read. If seat `w` is named, the walk stops there at
-- a wrong read, and in each lower seat without one
abbrev pub AreLeft : ℕ → Memory → List (List Kept) → List (List Kept) → Option ℕ → Type 0
AreLeft n m rests lefts None = (v : ℕ) → v < length rests → IsLeft n m false (left_of rests v) (left_of lefts v)
AreLeft n m rests lefts (Some w) =
    (w < length rests) × ((v : ℕ) → v < w → IsLeft n m false (left_of rests v) (left_of lefts v)) × IsLeft n m true (left_of rests w) (left_of lefts w)

-- the first call of the worker's seat is recorded, and is taken
pub record IsStepped (worker : ℕ) (old new : List (List Kept)) : Type 0 where
  pub kept : Kept
  pub tail : List Kept
  pub first : slice_index_or old worker [] ≡ kept ∷ tail
  pub bare : kept.seen ≡ None
  pub set : new ≡ slice_set old worker tail

-- the first call of the worker's seat, if there is one, isn't recorded. Nothing changes, and the seat is named
pub record IsHeldUp (worker : ℕ) (old new : List (List Kept)) (w : ℕ) : Type 0 where
  pub own : w ≡ worker
  pub below : w < length old
  pub same : new ≡ old
  pub no_recorded : (kept : Kept) (tail : List Kept) → left_of old w ≡ kept ∷ tail → kept.seen ≡ None → ⊥

-- what an entry does: if its worker's seat is examined, the seat's first call is taken, or the seat is named. Otherwise
-- nothing changes
abbrev pub IsStep : ℕ → List (List Kept) → List (List Kept) → Option ℕ → Type 0
IsStep worker old new None = (worker < length old → IsStepped worker old new) × (length old ≤ worker → new ≡ old)
IsStep worker old new (Some w) = IsHeldUp worker old new w

-- the first seat that has a call left, or none if no seat has one
abbrev pub IsFirstLeft : List (List Kept) → Option ℕ → Type 0
IsFirstLeft rests None = (v : ℕ) → left_of rests v ≡ []
IsFirstLeft rests (Some w) = (w < length rests) × ((v : ℕ) → v < w → left_of rests v ≡ []) × (left_of rests w ≡ [] → ⊥)

-- if a seat was found, its first remaining call is reported, and from then on only the seats below it are examined
abbrev pub Tells : List (List Kept) → Option ℕ → List (List Kept) → List (List Kept) → Option (ℕ × ℕ) → Option (ℕ × ℕ) → Type 0
Tells seats None old new told told' = (new ≡ old) × (told' ≡ told)
Tells seats (Some w) old new told told' = (new ≡ take w old) × (told' ≡ Some (w, length (kept_by seats w) - length (left_of old w)))

-- the walk that begins at length `n`, with this memory, these calls and this history before, ends with the history
-- `after`
abbrev pub Walks : ℕ → Memory → List (List Kept) → List Entry → List Entry → List Entry → Type 0
Walks n m rests [] before after = (lefts : List (List Kept)) × AreTaken n 0 m rests lefts before after × ((w : ℕ) → slice_index_or lefts w [] ≡ [])
Walks n m rests (entry ∷ entries) before after =
    (lefts : List (List Kept)) × (next : List (List Kept)) × (mid : List Entry) × AreTaken n 0 m rests lefts before mid × IsStepped entry.worker lefts next
    × Walks (suc n) (left_by m entry.command entry.reply) next entries (mid ++ entry ∷ []) after

-- the error for which the walk returns no history: a wrong read, or out of memory
abbrev pub IsWalkFault : List (List Kept) → List Entry → FinishError → Type 0
IsWalkFault seats entries (SeatMissing w) = ⊥
IsWalkFault seats entries (SeatError w i) = ⊥
IsWalkFault seats entries (ReadError w i) = (w < length seats) × ReadDiffers seats entries w i
IsWalkFault seats entries NoMemory = Unit {0}
