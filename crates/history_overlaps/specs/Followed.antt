-- How a judge follows the accesses to an object in time.
use Rattle.std.specs.Prelude.{◌≡◌, ℕ, ◌<◌, ◌≤◌, if◌then◌else◌, nat_lt, List, Option, Some, None, slice_get, take}
use Rattle.model_intervals.specs.Intervals.{Call}
use Rattle.model_intervals.specs.Objects.{Object, object_made}
use Rattle.model_intervals.specs.OverlappingCalls.{IsAt}
use Rattle.history_object.specs.declared.faults.JudgeFault.{JudgeFault}
use Rattle.history_object.specs.declared.faults.JudgeFault.TheVariants.{Memory, TooMany, TooManyPending}
use Rattle.history_object.specs.ObjectBytes.{State, conflict, effect, first_state, reads}
use Rattle.history_object.specs.declared.access.Access.{Access}
use Rattle.history_object.specs.Following.{HasMoreAtEnd, HasSome, IsFull, IsJudgeOf, IsOpen, TimedStanding}
use Rattle.history_object.specs.OrderedJudges.{IsOrderedJudgeOf}
use Rattle.history_object.specs.TimedCalls.{Timed}
use Rattle.history_object.specs.declared.ordered.OrderedJudge.{OrderedJudge}
use Rattle.history_reading.specs.declared.words.TimedCall.{TimedCall}
use Rattle.history_overlaps.specs.Accesses.{timed_accesses}
use Rattle.history_overlaps.specs.OwnOrders.{made_of}
use Rattle.history_overlaps.specs.declared.accesses.Made.{Made}

-- the end of a call, or 0 if there is none
abbrev pub end_in : Option TimedCall → ℕ
end_in None = 0
end_in (Some call) = call.end

-- the end of the call with this number, or 0 if there is no such call
abbrev pub end_of : List TimedCall → ℕ → ℕ
end_of calls number = end_in (slice_get calls number)

-- the one of two calls that ends first
abbrev pub sooner : List TimedCall → Option ℕ → Option ℕ → Option ℕ
sooner calls None other = other
sooner calls (Some one) None = Some one
sooner calls (Some one) (Some two) = if nat_lt (end_of calls two) (end_of calls one) then Some two else Some one

-- this is the call that ends first of those that are pending at places. If it is none, no call is pending
abbrev pub IsFirstOf : List TimedCall → List (Option ℕ) → Option ℕ → Type 0
IsFirstOf calls numbers None = (place number : ℕ) → slice_get numbers place ≡ Some (Some number) → ⊥
IsFirstOf calls numbers (Some first) = ((place : ℕ) × (slice_get numbers place ≡ Some (Some first)))
    × ((place number : ℕ) → slice_get numbers place ≡ Some (Some number) → end_of calls first ≤ end_of calls number)

-- each of these accesses ends when the call with its number ends
abbrev pub AreOf : List TimedCall → List (Timed Access) → Type 0
AreOf calls timeds = (k : ℕ) (timed : Timed Access) → slice_get timeds k ≡ Some timed → timed.end ≡ end_of calls timed.number

-- each access that isn't open ended before the moment
abbrev pub ArePast : List (Timed Access) → ℕ → TimedStanding State Access → Type 0
ArePast timeds moment judge = (k : ℕ) (timed : Timed Access) → slice_get timeds k ≡ Some timed → (IsOpen judge timed.number → ⊥) → timed.end < moment

-- each access that is open ends at the moment or later
abbrev pub AreOpenFrom : List (Timed Access) → ℕ → TimedStanding State Access → Type 0
AreOpenFrom timeds moment judge = (k : ℕ) (timed : Timed Access) → slice_get timeds k ≡ Some timed → IsOpen judge timed.number → moment ≤ timed.end

-- the judge has followed these accesses, some configuration is left, and each access that isn't open ended before the
-- moment
pub record IsUpTo {O : Type 0} (len : ℕ) (timeds : List (Timed Access)) (moment : ℕ) (judge : OrderedJudge O State Access) : Type 0 where
  pub follows : IsOrderedJudgeOf effect (first_state len) timeds judge
  pub some : HasSome effect judge.judge
  pub past : ArePast timeds moment judge.judge

-- the judge has followed these accesses, no configuration is left, and each access that isn't open ended before the
-- moment
pub record IsRefutedAt {O : Type 0} (len : ℕ) (timeds : List (Timed Access)) (moment : ℕ) (judge : OrderedJudge O State Access) : Type 0 where
  pub follows : IsJudgeOf effect (first_state len) timeds judge.judge
  pub none : HasSome effect judge.judge → ⊥
  pub past : ArePast timeds moment judge.judge

-- why a judge of these accesses to an object of `len` bytes stops: more than `most` configurations are met at the end
-- of an access, or 64 accesses are pending when another begins. An allocation failure claims nothing
abbrev pub HasStoppedAt : ℕ → List (Timed Access) → ℕ → JudgeFault → Type 0
HasStoppedAt len timeds most TooMany =
    (judge : TimedStanding State Access) × (number : ℕ) × IsJudgeOf effect (first_state len) timeds judge × HasMoreAtEnd effect reads conflict judge number most
HasStoppedAt len timeds most TooManyPending = (judge : TimedStanding State Access) × IsJudgeOf effect (first_state len) timeds judge × IsFull judge
HasStoppedAt len timeds most Memory = Unit {0}

-- why the judge of the accesses to this object stops, after some of them
abbrev pub IsStoppedFor : List Call → Made → ℕ → JudgeFault → Type 0
IsStoppedFor calls made most fault = (count : ℕ) × HasStoppedAt made.len (take count (timed_accesses made.cell made.address calls)) most fault

-- why the judge of the accesses to the object that this call made stops. An allocation failure claims nothing
abbrev pub IsStoppedBy : List Call → Call → ℕ → JudgeFault → Type 0
IsStoppedBy calls call most Memory = Unit {0}
IsStoppedBy calls call most fault = (x : Object) × (object_made call.entry.command call.entry.reply ≡ Some x) × IsStoppedFor calls (made_of x) most fault

-- why no order is looked for to the end: the judge of the accesses to some object stops. An allocation failure claims
-- nothing
abbrev pub IsStopped : List Call → ℕ → JudgeFault → Type 0
IsStopped calls most Memory = Unit {0}
IsStopped calls most fault = (i : ℕ) × (call : Call) × IsAt calls i call × IsStoppedBy calls call most fault
