-- The state of a timed judge, and which calls it has followed.
use Rattle.std.specs.Prelude.{◌≡◌, ◌≢◌, ◌↔◌, ℕ, suc, Bool, ◌<◌, ◌≤◌, List, [], ◌∷◌, Option, Some, None, length, map, slice_get, slice_set}
use Rattle.history_object.specs.Orders.{EndsBefore, HasEnded, NumberedEvent, begun_behind}
use Rattle.history_object.specs.Placed.{ArePlaced, HavePassed, none_taken}
use Rattle.history_object.specs.declared.refutation.Refutation.{Refutation}
use Rattle.history_object.specs.Parts.{AreLeft, HasMoreMet}
use Rattle.history_object.specs.Refuted.{IsRefuted}
use Rattle.history_object.specs.Standings.{Begins, CanGoOn, Ends, Event, Standing, first_standing}
use Rattle.history_object.specs.TimedCalls.{Timed}
use Rattle.history_object.specs.Ways.{AreWays}
use Rattle.history_object.specs.declared.way.Way.{Way}

-- the state of a timed judge: the state of its judge, and the number of the call that is pending at each place
pub record TimedStanding (S C : Type 0) : Type 0 where
  pub standing : Standing S C
  pub numbers : List (Option ℕ)

-- the call with this number is pending
abbrev pub IsOpen : {S C : Type 0} → TimedStanding S C → ℕ → Type 0
IsOpen judge number = (place : ℕ) × (slice_get judge.numbers place ≡ Some (Some number))

-- the call that is pending under this number
abbrev pub IsCallOf : {S C : Type 0} → TimedStanding S C → ℕ → C → Type 0
IsCallOf judge number call = (place : ℕ) × (slice_get judge.numbers place ≡ Some (Some number)) × (slice_get judge.standing.pending place ≡ Some (Some call))

-- a call is pending at each of the 64 places
abbrev pub IsFull : {S C : Type 0} → TimedStanding S C → Type 0
IsFull judge = (place : ℕ) → place < 64 → (number : ℕ) × (slice_get judge.numbers place ≡ Some (Some number))

-- some configuration is left
abbrev pub HasSome : {S C : Type 0} → (S → C → Option S) → TimedStanding S C → Type 0
HasSome effect judge = CanGoOn effect judge.standing []

-- at the end of the call with this number, more than `most` configurations are met
abbrev pub HasMoreAtEnd : {S C : Type 0} → (S → C → Option S) → (S → C → Bool) → (C → C → Bool) → TimedStanding S C → ℕ → ℕ → Type 0
HasMoreAtEnd effect reads conflict judge number most = (place : ℕ) × (slice_get judge.numbers place ≡ Some (Some number))
    × HasMoreMet effect reads conflict judge.standing.pending place judge.standing.kept most

-- the refutation has the call that was pending under this number, and the configurations that were met at its end
abbrev pub IsRefutedOf : {O S C : Type 0} → (S → C → Option S) → (S → C → Bool) → (C → C → Bool) → TimedStanding S C → ℕ → Refutation O S C → Type 0
IsRefutedOf effect reads conflict old number refutation = (place : ℕ) × (slice_get old.numbers place ≡ Some (Some number))
    × IsRefuted effect reads conflict old.standing place refutation

-- a place is in both lists or in none, and has a number if and only if a call is pending there
abbrev pub IsNumbered : {C : Type 0} → Option (Option C) → Option (Option ℕ) → Type 0
IsNumbered None None = Unit {0}
IsNumbered (Some None) (Some None) = Unit {0}
IsNumbered (Some (Some call)) (Some (Some number)) = Unit {0}
IsNumbered call number = ⊥

-- there are 64 places, each has a number if and only if a call is pending there, and no number is at two places
pub record AreNumbered {C : Type 0} (pending : List (Option C)) (numbers : List (Option ℕ)) : Type 0 where
  pub all : length numbers ≡ 64
  pub each : (place : ℕ) → IsNumbered (slice_get pending place) (slice_get numbers place)
  pub once : (p q number : ℕ) → slice_get numbers p ≡ Some (Some number) → slice_get numbers q ≡ Some (Some number) → p ≡ q

-- a call may begin after these calls, of which those that aren't pending have ended. Its number is new, it doesn't end
-- before it begins, and no call began later. Each ended call ended before it begins, and no pending call ends before it
-- begins
pub record CanBegin {S C : Type 0} (calls : List (Timed C)) (judge : TimedStanding S C) (timed : Timed C) : Type 0 where
  pub own : (i : ℕ) (other : Timed C) → slice_get calls i ≡ Some other → other.number ≢ timed.number
  pub takes_time : timed.begin ≤ timed.end
  pub in_order : (i : ℕ) (other : Timed C) → slice_get calls i ≡ Some other → other.begin ≤ timed.begin
  pub after_ended : (i : ℕ) (other : Timed C) → slice_get calls i ≡ Some other → (IsOpen judge other.number → ⊥) → other.end < timed.begin
  pub before_ends : (i : ℕ) (other : Timed C) → slice_get calls i ≡ Some other → IsOpen judge other.number → timed.begin ≤ other.end

-- the index of the call at each place after these events. Calls are counted from 0 in the order of their begins, and
-- `begun` calls have begun before
abbrev pub taken_behind : {C : Type 0} → ℕ → List (Option ℕ) → List (Event C) → List (Option ℕ)
taken_behind begun taken [] = taken
taken_behind begun taken (Begins place call ∷ placed) = taken_behind (suc begun) (slice_set taken place (Some begun)) placed
taken_behind begun taken (Ends place ∷ placed) = taken_behind begun (slice_set taken place None) placed

-- a place is free in both lists or in neither list, or the call at the place's index has the place's number
abbrev pub IsNumberOf : {C : Type 0} → List (Timed C) → Option (Option ℕ) → Option (Option ℕ) → Type 0
IsNumberOf calls None None = Unit {0}
IsNumberOf calls (Some None) (Some None) = Unit {0}
IsNumberOf {C} calls (Some (Some i)) (Some (Some number)) = (timed : Timed C) × (slice_get calls i ≡ Some timed) × (timed.number ≡ number)
IsNumberOf calls call number = ⊥

-- the judge has followed these calls from a state on, in the order of their begins: it has taken all begins, and the
-- ends of the calls that aren't pending. The events name calls by their indices in the list. In the events, call A
-- ended before call B began if and only if A isn't pending and A's end is before B's begin. No two calls have one
-- number, no call ends before it begins, and none begins after the end of a pending call
pub record IsJudgeOf {S C : Type 0} (effect : S → C → Option S) (start : S) (calls : List (Timed C)) (judge : TimedStanding S C) : Type 0 where
  pub events : List NumberedEvent
  pub placed : List (Event C)
  pub are_placed : ArePlaced (map (λ timed. timed.call) calls) 0 none_taken events placed
  pub have_passed : HavePassed effect placed (first_standing start) judge.standing
  pub all_begun : begun_behind 0 events ≡ length calls
  pub have_begun : (i : ℕ) → HasEnded events i → i < length calls
  pub numbered : (place : ℕ) → IsNumberOf calls (slice_get (taken_behind 0 none_taken placed) place) (slice_get judge.numbers place)
  pub own : (i j : ℕ) (a b : Timed C) → slice_get calls i ≡ Some a → slice_get calls j ≡ Some b → a.number ≡ b.number → i ≡ j
  pub take_time : (i : ℕ) (timed : Timed C) → slice_get calls i ≡ Some timed → timed.begin ≤ timed.end
  pub overlap : (i j : ℕ) (a b : Timed C) → slice_get calls i ≡ Some a → slice_get calls j ≡ Some b → IsOpen judge a.number → b.begin ≤ a.end
  pub ended : (i : ℕ) (timed : Timed C) → slice_get calls i ≡ Some timed → HasEnded events i ↔ (IsOpen judge timed.number → ⊥)
  pub before : (i j : ℕ) (a b : Timed C) → slice_get calls i ≡ Some a → slice_get calls j ≡ Some b
      → EndsBefore 0 events i j ↔ ((IsOpen judge a.number → ⊥) × (a.end < b.begin))

-- the judge of an object in this state, before the first call
abbrev pub first_judge : {S C : Type 0} → S → TimedStanding S C
first_judge start = record { standing = first_standing start; numbers = none_taken }

-- a call took a free place, and the place has the call's number. The configurations are unchanged
pub record TakesPlace {S C : Type 0} (number : ℕ) (call : C) (old new : TimedStanding S C) : Type 0 where
  pub place : ℕ
  pub free : slice_get old.numbers place ≡ Some None
  pub no_call : slice_get old.standing.pending place ≡ Some None
  pub numbers : new.numbers ≡ slice_set old.numbers place (Some number)
  pub pending : new.standing.pending ≡ slice_set old.standing.pending place (Some call)
  pub kept : new.standing.kept ≡ old.standing.kept

-- the call with a number ended and left its place
pub record EndsAtPlace {S C : Type 0} (effect : S → C → Option S) (reads : S → C → Bool) (conflict : C → C → Bool) (number : ℕ)
    (old new : TimedStanding S C) : Type 0 where
  pub place : ℕ
  pub here : slice_get old.numbers place ≡ Some (Some number)
  pub once : (q : ℕ) → slice_get old.numbers q ≡ Some (Some number) → place ≡ q
  pub numbers : new.numbers ≡ slice_set old.numbers place None
  pub pending : new.standing.pending ≡ slice_set old.standing.pending place None
  pub left : AreLeft effect reads conflict old.standing.pending place old.standing.kept new.standing.kept

-- the call with a number left its place. A way leads to each configuration that is left, from one that was kept
pub record LeavesPlace {S C : Type 0} (effect : S → C → Option S) (number : ℕ) (old new : TimedStanding S C) (ways : List Way) : Type 0 where
  pub place : ℕ
  pub here : slice_get old.numbers place ≡ Some (Some number)
  pub numbers : new.numbers ≡ slice_set old.numbers place None
  pub pending : new.standing.pending ≡ slice_set old.standing.pending place None
  pub lead : AreWays effect old.standing place new.standing.kept ways
