-- Histories of overlapping calls by their numbers, and the orders of effects that explain them.
use Rattle.std.specs.Prelude.{◌≡◌, ◌↔◌, ℕ, suc, ◌<◌, ◌≤◌, ◌⊎◌, List, [], ◌∷◌, Option, Some}
use Rattle.std.specs.List.{AllPairs}
use Rattle.history_object.specs.Carried.{AreBelow, after_all}

-- an event: the next call begins, or the call with this number ends. Calls are numbered in the order of their begins,
-- from 0
pub data NumberedEvent : Type 0 where
  CallBegins : NumberedEvent
  CallEnds : ℕ → NumberedEvent

-- the order contains call `i`. This call and every call before it in the order are among the `calls` that have begun
abbrev pub HasItBegun : ℕ → ℕ → List ℕ → Type 0
HasItBegun calls i [] = ⊥
HasItBegun calls i (n ∷ order) = (n < calls) × ((n ≡ i) ⊎ HasItBegun calls i order)

-- the order respects time: all its calls have begun, and it contains each call that ended. Before a call that ended, it
-- has no call that began after this end
abbrev pub RespectsTime : ℕ → List NumberedEvent → List ℕ → Type 0
RespectsTime calls [] order = AreBelow calls order
RespectsTime calls (CallBegins ∷ events) order = RespectsTime (suc calls) events order
RespectsTime calls (CallEnds i ∷ events) order = HasItBegun calls i order × RespectsTime calls events order

-- the call is in the list
abbrev pub IsIn : ℕ → List ℕ → Type 0
IsIn i [] = ⊥
IsIn i (n ∷ order) = (n ≡ i) ⊎ IsIn i order

-- no call is in the list twice
abbrev pub IsEachOnce : List ℕ → Type 0
IsEachOnce [] = Unit {0}
IsEachOnce (n ∷ order) = (IsIn n order → ⊥) × IsEachOnce order

-- an order of effects that explains a history: it has each call at most once and respects time, and each call answers
-- as recorded
abbrev pub Explains : {S : Type 0} → (S → ℕ → Option S) → S → List NumberedEvent → List ℕ → Type 0
Explains {S} effect start events order = IsEachOnce order × RespectsTime 0 events order × ((last : S) × (after_all effect order start ≡ Some last))

-- how many calls have begun after these events, if `calls` have begun before
abbrev pub begun_behind : ℕ → List NumberedEvent → ℕ
begun_behind calls [] = calls
begun_behind calls (CallBegins ∷ events) = begun_behind (suc calls) events
begun_behind calls (CallEnds i ∷ events) = begun_behind calls events

-- the call ended in these events
abbrev pub HasEnded : List NumberedEvent → ℕ → Type 0
HasEnded [] i = ⊥
HasEnded (CallBegins ∷ events) i = HasEnded events i
HasEnded (CallEnds k ∷ events) i = (k ≡ i) ⊎ HasEnded events i

-- call `i` ended before call `other` began: when call `i` ended, at most `other` calls had begun
abbrev pub EndsBefore : ℕ → List NumberedEvent → ℕ → ℕ → Type 0
EndsBefore calls [] i other = ⊥
EndsBefore calls (CallBegins ∷ events) i other = EndsBefore (suc calls) events i other
EndsBefore calls (CallEnds k ∷ events) i other = ((k ≡ i) × (calls ≤ other)) ⊎ EndsBefore calls events i other

-- no call ended before it began
abbrev pub TakeTime : List NumberedEvent → Type 0
TakeTime events = (i : ℕ) → EndsBefore 0 events i i → ⊥

-- if call A ended before call B began, A isn't behind B in the order
abbrev pub NoneIsBehindLater : List NumberedEvent → List ℕ → Type 0
NoneIsBehindLater events order = AllPairs (λ front back. EndsBefore 0 events back front → ⊥) order

-- the order contains each call that ended
abbrev pub HasAllEnded : List NumberedEvent → List ℕ → Type 0
HasAllEnded events order = (i : ℕ) → HasEnded events i → IsIn i order

-- if no call ended before it began, an order with each call at most once respects time if and only if three things
-- hold. All its calls have begun, it contains each call that ended, and if call A ended before call B began, A isn't
-- behind B
abbrev pub TimeIsPairwise : Type 0
TimeIsPairwise = (events : List NumberedEvent) (order : List ℕ) → TakeTime events → IsEachOnce order
    → RespectsTime 0 events order ↔ (AreBelow (begun_behind 0 events) order × HasAllEnded events order × NoneIsBehindLater events order)
