-- The accesses that end before a moment are ended.
use Rattle.std.proofs.Common.{◌≡◌, ◌≢◌, ℕ, ◌<◌, ◌≤◌, ◌↔◌, inl, inr, Bool, true, false, IsTrue, List, Some, None, arith, refl, ap}
use Rattle.std.proofs.lemmas.Bool.Decides.{eqb_tells}
use Rattle.history_reading.specs.declared.words.TimedCall.{TimedCall}
use Rattle.history_object.specs.ObjectBytes.{State, conflict, effect, first_state, reads}
use Rattle.history_object.specs.declared.access.Access.{Access}
use Rattle.history_object.specs.declared.faults.JudgeFault.{JudgeFault}
use Rattle.history_object.specs.declared.faults.JudgeFault.TheVariants.{Memory, TooMany, TooManyPending}
use Rattle.history_object.specs.Following.{HasMoreAtEnd, HasSome, IsOpen, TimedStanding}
use Rattle.history_object.specs.OrderedJudges.{IsOrderedJudgeOf}
use Rattle.history_object.specs.TimedCalls.{Timed}
use Rattle.history_object.specs.declared.ordered.OrderedJudge.{OrderedJudge}
use Rattle.history_overlaps.specs.Followed.{AreOf, AreOpenFrom, ArePast, HasStoppedAt, IsFirstOf, IsRefutedAt, IsUpTo, end_of}

-- a judge that has followed accesses up to a moment has followed them up to a later moment
pub up_to_later : {O : Type 0} (len : ℕ) (timeds : List (Timed Access)) (earlier moment : ℕ) (judge : OrderedJudge O State Access) → earlier ≤ moment
    → IsUpTo len timeds earlier judge → IsUpTo len timeds moment judge
up_to_later len timeds earlier moment judge le up_to = record {
  follows = up_to.follows;
  some = up_to.some;
  past = λ k timed at closed. let lt = up_to.past k timed at closed in omega (arith, lt, le);
}

-- an open access that isn't the first to end before the moment stays open
past_after : (calls : List TimedCall) (timeds : List (Timed Access)) (moment number : ℕ) (old new : TimedStanding State Access) → AreOf calls timeds
    → end_of calls number < moment → ((n : ℕ) → IsOpen new n ↔ (IsOpen old n × (n ≢ number))) → ArePast timeds moment old → ArePast timeds moment new
past_after calls timeds moment number old new are before opens past k timed at closed = elim (eqb_tells timed.number number) [
  | inl same ↦ (let own = are k timed at in let e = ap (end_of calls) same.1 in omega (arith, own, e, before))
  | inr other ↦ past k timed at (λ opened. closed ((opens timed.number).1 (opened, other.1)))
]

-- the access that ends first has ended, and some configuration is left
pub ended_first : {O : Type 0} (calls : List TimedCall) (len : ℕ) (timeds : List (Timed Access)) (moment number : ℕ) (old new : OrderedJudge O State Access) → AreOf calls timeds
    → end_of calls number < moment → ((n : ℕ) → IsOpen new.judge n ↔ (IsOpen old.judge n × (n ≢ number)))
    → (IsOrderedJudgeOf effect (first_state len) timeds old → IsOrderedJudgeOf effect (first_state len) timeds new)
    → IsUpTo len timeds moment old → HasSome effect new.judge → IsUpTo len timeds moment new
ended_first calls len timeds moment number old new are before opens follows up_to some = record {
  follows = follows up_to.follows;
  some = some;
  past = past_after calls timeds moment number old.judge new.judge are before opens up_to.past;
}

-- the access that ends first has ended, and no configuration is left
pub refuted_first : {O : Type 0} (calls : List TimedCall) (len : ℕ) (timeds : List (Timed Access)) (moment number : ℕ) (old new : OrderedJudge O State Access) → AreOf calls timeds
    → end_of calls number < moment → ((n : ℕ) → IsOpen new.judge n ↔ (IsOpen old.judge n × (n ≢ number)))
    → (IsOrderedJudgeOf effect (first_state len) timeds old → IsOrderedJudgeOf effect (first_state len) timeds new)
    → IsUpTo len timeds moment old → (HasSome effect new.judge → ⊥) → IsRefutedAt len timeds moment new
refuted_first calls len timeds moment number old new are before opens follows up_to none = record {
  follows = (let followed = follows up_to.follows in followed.follows);
  none = none;
  past = past_after calls timeds moment number old.judge new.judge are before opens up_to.past;
}

-- the open access that ends first ends at the moment or later, and so does each other open access
pub open_from_first : (calls : List TimedCall) (timeds : List (Timed Access)) (moment first : ℕ) (judge : TimedStanding State Access) → AreOf calls timeds
    → IsFirstOf calls judge.numbers (Some first) → moment ≤ end_of calls first → AreOpenFrom timeds moment judge
open_from_first calls timeds moment first judge are is le k timed at opened =
    let own = are k timed at in let least = is.1 opened.0 timed.number opened.1 in omega (arith, own, least, le)

-- no access is open
pub open_from_none : (calls : List TimedCall) (timeds : List (Timed Access)) (moment : ℕ) (judge : TimedStanding State Access) → IsFirstOf calls judge.numbers None
    → AreOpenFrom timeds moment judge
open_from_none calls timeds moment judge is k timed at opened = absurd (is opened.0 timed.number opened.1)

-- the end of an access stops the judge
pub stopped_at_end : {O : Type 0} (len : ℕ) (timeds : List (Timed Access)) (moment most number : ℕ) (fault : JudgeFault) (judge : OrderedJudge O State Access)
    → IsUpTo len timeds moment judge → (fault ≡ TooMany → HasMoreAtEnd effect reads conflict judge.judge number most) → (fault ≡ TooManyPending → ⊥) → HasStoppedAt len timeds most fault
stopped_at_end len timeds moment most number Memory judge up_to many not_full = tt
stopped_at_end len timeds moment most number TooMany judge up_to many not_full = (judge.judge, number, up_to.follows.follows, many refl)
stopped_at_end len timeds moment most number TooManyPending judge up_to many not_full = absurd (not_full refl)

-- no test is both true and false
pub not_both : (b : Bool) → IsTrue b → b ≡ false → ⊥
not_both true is none = cc none
not_both false is none = cc is
