-- A timeline, and the calls that it represents.
use Rattle.std.specs.Prelude.{◌≡◌, ◌≢◌, ℕ, ◌*◌, ◌%◌, ◌<◌, List, [], ◌∷◌, ◌++◌, Option, Some, length}
use Rattle.std.specs.Ordering.{nat_cmp}
use Rattle.std.specs.BTreeMap.{get}
use Rattle.model_memory.specs.Plain.{Entry}
use Rattle.model_intervals.specs.Completions.{IsFirstWrong}
use Rattle.model_intervals.specs.Intervals.{Call}
use Rattle.history_number_set.specs.Ranges.{Has}
use Rattle.history_overlaps.specs.Accesses.{access_of}
use Rattle.history_overlaps.specs.Flaws.{IsFlawAt}
use Rattle.history_overlaps.specs.LifeSteps.{HasBegun}
use Rattle.history_overlaps.specs.Lives.{CannotBe}
use Rattle.history_overlaps.specs.Misuses.{IsMisusedAt}
use Rattle.history_overlaps.specs.Queues.{MayBegin}
use Rattle.history_overlaps.specs.Timelines.{Holds, StartsWaiting, StopsWaiting}
use Rattle.history_overlaps.specs.declared.flaws.Flaw.{Flaw}
use Rattle.history_overlaps.specs.declared.life.Life.{Life}
use Rattle.history_overlaps.specs.declared.misuses.NotBegun.{NotBegun}
use Rattle.history_overlaps.specs.declared.misuses.NotBegun.TheVariants.{Misused, Fault}
use Rattle.history_overlaps.specs.declared.pending.Pending.{Pending}
use Rattle.history_overlaps.specs.declared.timeline.Timeline.{Timeline}

abbrev pub waits_of : Timeline → ℕ → Option Pending
waits_of t = get nat_cmp t.waiting

abbrev pub lives_of : Timeline → ℕ → Option Life
lives_of t = get nat_cmp t.lives

abbrev pub starts_of : Timeline → ℕ → Option ℕ
starts_of t = get nat_cmp t.starts

-- the timeline without its queue represents these calls, if `waits` are the waiting calls
abbrev pub StandsWith : List Call → (ℕ → Option Pending) → Timeline → Type 0
StandsWith calls waits t = Holds calls waits (lives_of t) (starts_of t) (Has t.cells) (Has t.serials) (Has t.freed)

-- the timeline represents these calls
abbrev pub Stands : List Call → Timeline → Type 0
Stands calls t = StandsWith calls (waits_of t) t

-- `g` returns `v` at `k`, and the value of `f` at each other number
abbrev pub IsSetAt : {X : Type 0} → (ℕ → Option X) → (ℕ → Option X) → ℕ → Option X → Type 0
IsSetAt f g k v = (g k ≡ v) × ((q : ℕ) → q ≢ k → g q ≡ f q)

-- if a call with this number and this entry may begin, it has begun in the new timeline, and `pending` is to be done at
-- its end
abbrev pub HasBegunSo : Timeline → Timeline → ℕ → Entry → Pending → Type 0
HasBegunSo old new number entry pending = (calls : List Call) (call : Call) (waits' : ℕ → Option Pending) → length calls ≡ number → call.entry ≡ entry
    → Stands calls old → MayBegin calls (waits_of old) call → StartsWaiting calls call (waits_of old) waits' pending → StandsWith (calls ++ call ∷ []) waits' new

-- if a call with this number and this entry may begin, the call that is told breaks the rule that is told. Other
-- reasons why a call doesn't begin claim nothing
abbrev pub IsMisusedSo : Timeline → ℕ → Entry → NotBegun → Type 0
IsMisusedSo old number entry (Misused misused) = (calls : List Call) (call : Call) → length calls ≡ number → call.entry ≡ entry
    → Stands calls old → MayBegin calls (waits_of old) call
    → IsMisusedAt (calls ++ call ∷ []) misused.number misused.misuse
IsMisusedSo old number entry (Fault fault) = Unit {0}

-- the access `number` to the live object of the cell has begun
abbrev pub HasBegunIn : (ℕ → Option Life) → (ℕ → Option Life) → ℕ → ℕ → Entry → Type 0
HasBegunIn lives lives' cell number entry = (old new : Life) × (lives cell ≡ Some old) × IsSetAt lives lives' cell (Some new) × (new.object ≡ old.object)
    × HasBegun old new number (access_of old.object.address entry.command entry.reply)

-- the waiting call that ends first, which has this number, has ended in the new timeline, and no flaw is found
abbrev pub HasEndedSo : Timeline → Timeline → ℕ → Pending → Type 0
HasEndedSo old new number pending = (calls : List Call) (waits : ℕ → Option Pending) (key : ℕ) → key % 4294967296 ≡ number → StopsWaiting waits (waits_of old) key pending
    → StandsWith calls waits old → StandsWith calls (waits_of old) new

-- the waiting call that ends first has this number, and `pending` is to be done at its end
abbrev pub IsEnding : Timeline → ℕ → Pending → Type 0
IsEnding t number pending = (calls : List Call) × (waits : ℕ → Option Pending) × (key : ℕ) × (key % 4294967296 ≡ number)
    × StopsWaiting waits (waits_of t) key pending × StandsWith calls waits t

-- the waiting call that ends first has this number. It is the first wrong call by its end, and its answer has the flaw.
-- At each moment after that end, no calls that begin from then on continue the calls so far to a history that is
-- explained by object
abbrev pub IsFlawed : Timeline → ℕ → Pending → Flaw → Type 0
IsFlawed old number pending flaw = (calls : List Call) (waits : ℕ → Option Pending) (key moment : ℕ) → key % 4294967296 ≡ number → StopsWaiting waits (waits_of old) key pending
    → StandsWith calls waits old → key < moment * 4294967296 → IsFirstWrong calls number × IsFlawAt calls number flaw × CannotBe calls moment
