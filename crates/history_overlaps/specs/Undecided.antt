-- What the verdict `Undecided` claims of the text that was read.
use Rattle.std.specs.Prelude.{◌≡◌, ◌⊎◌, ℕ, suc, ◌+◌, List, ◌∷◌, ◌++◌, Option, length}
use Rattle.std.specs.Io.KnownBytes.{IsAtEnd}
use Rattle.model_intervals.specs.Intervals.{Call}
use Rattle.history_object.specs.declared.faults.JudgeFault.{JudgeFault}
use Rattle.history_object.specs.declared.faults.JudgeFault.TheVariants.{TooMany, TooManyPending, Memory}
use Rattle.history_reading.specs.CallReadings.{calls_of}
use Rattle.history_overlaps.specs.Lives.{BeginFrom}
use Rattle.history_overlaps.specs.Stops.{IsCrowded, IsManifold}

-- these are the first calls of the text, and each later one begins at the moment or later
abbrev pub AreFirstUpTo : List Call → ℕ → List ℕ → Type 0
AreFirstUpTo calls moment text = (later : List Call) × ((calls_of text).calls ≡ calls ++ later) × BeginFrom moment later

-- these are the first calls of the text, and each later one begins after the end of `call`: whatever follows the text,
-- or as the text is at its end
abbrev pub AreFirstToEnd : Option (List ℕ) → List ℕ → List Call → Call → Type 0
AreFirstToEnd left' text calls call = ((more : List ℕ) → AreFirstUpTo calls (suc call.end) (text ++ more))
    ⊎ (AreFirstUpTo calls (suc call.end) text × IsAtEnd left')

-- why the judge stops at the call in this place of the text, where these calls have begun before. If the reason is
-- `TooManyPending`, the call begins after these; 64 accesses to its object are pending. If it is `TooMany`, the call is
-- one of these and ends; more than `most` configurations of its object are met. A failed allocation is no reason
abbrev pub IsStoppedIn : Option (List ℕ) → List ℕ → List Call → ℕ → ℕ → JudgeFault → Type 0
IsStoppedIn left' text calls number most TooManyPending = (call : Call) × (number ≡ length calls) × IsCrowded calls call
    × ((more : List ℕ) → (later : List Call) × ((calls_of (text ++ more)).calls ≡ calls ++ call ∷ later))
IsStoppedIn left' text calls number most TooMany = (call : Call) × IsManifold calls number most call × AreFirstToEnd left' text calls call
IsStoppedIn left' text calls number most Memory = ⊥

-- the judge stops at the call in this line, for this reason, among the first calls of the text that was read. The calls
-- before are a history, and those that have ended can be completed
pub record IsUndecidedText (left' : Option (List ℕ)) (text : List ℕ) (most line : ℕ) (fault : JudgeFault) : Type 0 where
  pub calls : List Call
  pub number : ℕ
  pub in_line : line ≡ number + 2
  pub stopped : IsStoppedIn left' text calls number most fault
