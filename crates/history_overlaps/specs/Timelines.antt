-- How the parts of a timeline represent the calls that have begun.
use Rattle.std.specs.Prelude.{◌≡◌, ◌≢◌, ◌↔◌, ℕ, ◌<◌, ◌≤◌, List, Option, Some, None, length}
use Rattle.model_intervals.specs.Intervals.{Call}
use Rattle.model_intervals.specs.Objects.{IsMadeAt}
use Rattle.model_intervals.specs.OverlappingCalls.{IsAt, IsHistory, IsNew, cell_at}
use Rattle.history_object.specs.Following.{IsOpen}
use Rattle.history_overlaps.specs.Judges.{AccessJudge, Judges, live_of}
use Rattle.history_overlaps.specs.declared.life.Life.{Life}
use Rattle.history_overlaps.specs.Lives.{IsFreed, IsNamed, Lives}
use Rattle.history_overlaps.specs.Queues.{HasEnded, Queue, key_of, object_of}
use Rattle.history_overlaps.specs.declared.pending.Pending.{Pending}

-- the calls are a history that may be explained by object: the ended calls meet the conditions on objects. `cells` are
-- the cells of all `new`s, and `freed` those of the objects that a call frees. Each object has the number of its `new`
pub record Holds (calls : List Call) (waits : ℕ → Option Pending) (lives : ℕ → Option Life) (starts : ℕ → Option ℕ) (cells serials freed : ℕ → Type 0) : Type 0 where
  pub queue : Queue calls waits
  pub history : IsHistory calls
  pub living : Lives calls (HasEnded calls waits) (live_of lives) serials
  pub judges : Judges calls waits lives
  pub started : (c : ℕ) (life : Life) → lives c ≡ Some life → starts life.object.address ≡ Some c
  pub starts_of : (address c : ℕ) → starts address ≡ Some c → (life : Life) × (lives c ≡ Some life) × (life.object.address ≡ address)
  pub numbered : (c : ℕ) (life : Life) → lives c ≡ Some life → (call : Call) × IsMadeAt calls life.object.number call (object_of life.object)
  pub has_cell : (i : ℕ) (a : Call) → IsAt calls i a → IsNew a.entry.command → cells (cell_at a)
  pub of_cell : (c : ℕ) → cells c → IsNamed calls c
  pub freed_is : (c : ℕ) → freed c ↔ IsFreed calls c

-- each access that is open at a judge has a number below `count`
abbrev pub FewOpen : (ℕ → Option Life) → ℕ → Type 0
FewOpen lives count = (c : ℕ) (life : Life) (judge : AccessJudge) (number : ℕ) → lives c ≡ Some life → life.judge ≡ Some judge → IsOpen judge number → number < count

-- the call, which begins after these, waits for its end now; no other waiting call changes
pub record StartsWaiting (calls : List Call) (call : Call) (waits waits' : ℕ → Option Pending) (pending : Pending) : Type 0 where
  pub now : waits' (key_of call (length calls)) ≡ Some pending
  pub others : (key : ℕ) → key ≢ key_of call (length calls) → waits' key ≡ waits key

-- the waiting call with the least key is removed from the waiting calls
pub record StopsWaiting (waits waits' : ℕ → Option Pending) (key : ℕ) (pending : Pending) : Type 0 where
  pub was : waits key ≡ Some pending
  pub gone : waits' key ≡ None
  pub others : (q : ℕ) → q ≢ key → waits' q ≡ waits q
  pub least : (q : ℕ) (r : Pending) → waits q ≡ Some r → key ≤ q
