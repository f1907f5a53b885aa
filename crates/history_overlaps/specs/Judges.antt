-- The judges of the accesses to the live objects.
use Rattle.std.specs.Prelude.{◌≡◌, ◌↔◌, ℕ, true, List, [], Option, Some, None, option_map}
use Rattle.model_intervals.specs.Intervals.{Call}
use Rattle.model_intervals.specs.Objects.{Object, ExplainsAccesses, IsMadeAt}
use Rattle.model_intervals.specs.OverlappingCalls.{IsAt}
use Rattle.history_object.specs.ObjectBytes.{State, effect, first_state}
use Rattle.history_object.specs.declared.access.Access.{Access as AnAccess}
use Rattle.history_object.specs.Following.{HasSome, IsCallOf, IsJudgeOf, IsOpen, TimedStanding}
use Rattle.history_overlaps.specs.Accesses.{access_of, is_access_of, placed_from, timed_accesses}
use Rattle.history_overlaps.specs.Lives.{IsFreed}
use Rattle.history_overlaps.specs.Queues.{HasEnded, IsWaiting, object_of}
use Rattle.history_overlaps.specs.declared.life.Life.{Life}
use Rattle.history_overlaps.specs.declared.objects.NewObject.{NewObject}
use Rattle.history_overlaps.specs.declared.pending.Pending.{Pending}
use Rattle.history_overlaps.specs.declared.pending.Pending.TheVariants.{Access}

-- the state of a judge of accesses
abbrev pub AccessJudge : Type 0
AccessJudge = TimedStanding State AnAccess

-- the live objects by their cells
abbrev pub live_of : (ℕ → Option Life) → ℕ → Option Object
live_of lives cell = option_map (λ life. object_of life.object) (lives cell)

-- the judge has followed the accesses to the object: exactly the waiting accesses are open, each under its place, and
-- some configuration is left
pub record IsFollowed (calls : List Call) (waits : ℕ → Option Pending) (object : NewObject) (judge : AccessJudge) : Type 0 where
  pub follows : IsJudgeOf effect (first_state object.len) (timed_accesses object.cell object.address calls) judge
  pub some : HasSome effect judge
  pub is_open : (i : ℕ) (a : Call) → IsAt calls i a → is_access_of object.cell a ≡ true → IsOpen judge i ↔ IsWaiting waits a i
  pub is_call : (i : ℕ) (access : AnAccess) → IsCallOf judge i access
      → (a : Call) × IsAt calls i a × (access ≡ access_of object.address a.entry.command a.entry.reply)

-- if the object has a judge, the judge has followed the accesses to it; otherwise there was no access
abbrev pub IsJudged : List Call → (ℕ → Option Pending) → NewObject → Option AccessJudge → Type 0
IsJudged calls waits object None = placed_from 0 object.cell calls ≡ []
IsJudged calls waits object (Some judge) = IsFollowed calls waits object judge

-- some order explains the accesses to an object
abbrev pub IsExplained : List Call → Object → Type 0
IsExplained calls x = (order : List Call) × ExplainsAccesses calls x.cell x.len x.address order

-- each live object is judged, and each waiting access is to a live object. If an object's `new` has ended and the
-- object is freed, some order explains the accesses to it
pub record Judges (calls : List Call) (waits : ℕ → Option Pending) (lives : ℕ → Option Life) : Type 0 where
  pub judged : (c : ℕ) (life : Life) → lives c ≡ Some life → IsJudged calls waits life.object life.judge
  pub settled : (i : ℕ) (a : Call) (x : Object) → HasEnded calls waits i → IsMadeAt calls i a x → IsFreed calls x.cell → IsExplained calls x
  pub access : (key c : ℕ) → waits key ≡ Some (Access c) → (life : Life) × (lives c ≡ Some life)
