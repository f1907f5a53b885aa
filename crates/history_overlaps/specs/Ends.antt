-- What is found at the end of a call.
use Rattle.std.specs.Prelude.{◌≡◌, ◌≢◌, ℕ, ◌*◌, ◌%◌, ◌<◌, ◌≤◌, Bool, List, Option, Some, None}
use Rattle.model_intervals.specs.Completions.{IsFirstWrong}
use Rattle.model_intervals.specs.Intervals.{Call}
use Rattle.model_intervals.specs.Objects.{Meet}
use Rattle.model_intervals.specs.OverlappingCalls.{IsAt}
use Rattle.history_object.specs.Following.{IsOpen}
use Rattle.history_overlaps.specs.Flaws.{IsFlawAt}
use Rattle.history_overlaps.specs.Judges.{AccessJudge}
use Rattle.history_overlaps.specs.LifeSteps.{HasEndedAt, IsToldAtEnd}
use Rattle.history_overlaps.specs.Lives.{CannotBe}
use Rattle.history_overlaps.specs.Queues.{HasEnded, object_of}
use Rattle.history_overlaps.specs.Standing.{IsSetAt, Stands, lives_of, waits_of}
use Rattle.history_overlaps.specs.Timelines.{FewOpen, StopsWaiting}
use Rattle.history_overlaps.specs.declared.life.AccessEnd.{AccessEnd}
use Rattle.history_overlaps.specs.declared.life.Life.{Life}
use Rattle.history_overlaps.specs.declared.objects.NewObject.{NewObject}
use Rattle.history_overlaps.specs.declared.pending.Pending.{Pending}
use Rattle.history_overlaps.specs.declared.stops.Found.{Found}
use Rattle.history_overlaps.specs.declared.timeline.Timeline.{Timeline}

-- the cell at the greatest of the addresses up to this one at which an object starts, or `None` if none starts there
abbrev pub IsNearest : (ℕ → Option ℕ) → ℕ → Option ℕ → Type 0
IsNearest starts address None = (q : ℕ) → q ≤ address → starts q ≡ None
IsNearest starts address (Some cell) = (b : ℕ) × (b ≤ address) × (starts b ≡ Some cell) × ((q c : ℕ) → q ≤ address → starts q ≡ Some c → q ≤ b)

-- each live object has at least 1 byte, no two have an address in common, and `starts` has exactly the live objects, by
-- their addresses
pub record AreDisjoint (lives : ℕ → Option Life) (starts : ℕ → Option ℕ) : Type 0 where
  pub filled : (c : ℕ) (life : Life) → lives c ≡ Some life → 1 ≤ life.object.len
  pub apart : (c d : ℕ) (life other : Life) → c ≢ d → lives c ≡ Some life → lives d ≡ Some other → Meet (object_of life.object) (object_of other.object) → ⊥
  pub started : (c : ℕ) (life : Life) → lives c ≡ Some life → starts life.object.address ≡ Some c
  pub starts_of : (address c : ℕ) → starts address ≡ Some c → (life : Life) × (lives c ≡ Some life) × (life.object.address ≡ address)

-- no live object has an address in the range of `object`
abbrev pub Misses : (ℕ → Option Life) → NewObject → Type 0
Misses lives object = (c : ℕ) (life : Life) → lives c ≡ Some life → Meet (object_of life.object) (object_of object) → ⊥

-- `other` is live and has an address in the range of `object`
abbrev pub IsOverlapped : (ℕ → Option Life) → NewObject → NewObject → Type 0
IsOverlapped lives object other = (c : ℕ) × (life : Life) × (lives c ≡ Some life) × (life.object ≡ other) × Meet (object_of other) (object_of object)

-- the access `number` to the live object of the cell has ended, and `left` is whether some configuration is left
abbrev pub HasEndedIn : (ℕ → Option Life) → (ℕ → Option Life) → ℕ → ℕ → Bool → Type 0
HasEndedIn lives lives' cell number left = (old new : Life) × (lives cell ≡ Some old) × IsSetAt lives lives' cell (Some new) × (new.object ≡ old.object)
    × HasEndedAt old new number left

-- the same of the live object of the cell
abbrev pub IsToldIn : (ℕ → Option Life) → ℕ → ℕ → AccessEnd → Type 0
IsToldIn lives cell number end = (life : Life) × (lives cell ≡ Some life) × IsToldAtEnd life number end

-- no access of this number to a live object of the cell is pending
abbrev pub IsGone : (ℕ → Option Life) → ℕ → ℕ → Type 0
IsGone lives cell number = (life : Life) (judge : AccessJudge) → lives cell ≡ Some life → life.judge ≡ Some judge → IsOpen judge number → ⊥

-- no waiting call ends before the moment
abbrev pub NoneBefore : (ℕ → Option Pending) → ℕ → Type 0
NoneBefore waits moment = (key : ℕ) (pending : Pending) → waits key ≡ Some pending → moment * 4294967296 ≤ key

-- the waiting call that ends first ends before the moment, and is removed from the waiting calls
pub record IsFirstBefore (waits waits' : ℕ → Option Pending) (moment number : ℕ) (pending : Pending) : Type 0 where
  pub key : ℕ
  pub stops : StopsWaiting waits waits' key pending
  pub is_number : key % 4294967296 ≡ number
  pub before : key < moment * 4294967296

-- each call that has ended did so before the moment
abbrev pub Past : List Call → (ℕ → Option Pending) → ℕ → Type 0
Past calls waits moment = (i : ℕ) (a : Call) → HasEnded calls waits i → IsAt calls i a → a.end < moment

-- the call at this place ends before the moment
abbrev pub EndsAheadOf : List Call → ℕ → ℕ → Type 0
EndsAheadOf calls place moment = (a : Call) × IsAt calls place a × (a.end < moment)

-- the call that is found is the first wrong one by its end, which is before the moment, and its answer has the flaw
-- that is found. No calls that begin from the moment on continue the calls so far to a history that is explained by
-- object
abbrev pub IsRuledOut : Timeline → ℕ → Found → Type 0
IsRuledOut t moment found = (calls : List Call) → Stands calls t → IsFirstWrong calls found.number × IsFlawAt calls found.number found.flaw × CannotBe calls moment
    × EndsAheadOf calls found.number moment

-- the calls that end before the moment are ended in the timeline, and no flaw was found: the timeline represents the
-- same calls before and after
pub record AreEnded (old new : Timeline) (moment : ℕ) : Type 0 where
  pub stands : (calls : List Call) → Stands calls old → Stands calls new
  pub past : (calls : List Call) → Past calls (waits_of old) moment → Past calls (waits_of new) moment
  pub few : (count : ℕ) → FewOpen (lives_of old) count → FewOpen (lives_of new) count
