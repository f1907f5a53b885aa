-- Laws about the calls that a timed judge has followed.
use Rattle.std.specs.Prelude.{◌≡◌, ℕ, ◌<◌, Bool, true, List, ◌++◌, Option, Some, slice_get}
use Rattle.std.specs.List.{filter}
use Rattle.history_object.specs.TimedCalls.{ExplainsTimed, Timed}
use Rattle.history_object.specs.Following.{HasSome, IsJudgeOf, IsOpen, TimedStanding}

-- each pending call is one of the calls that the judge has followed
abbrev pub OpenCallsAreCalls : {S C : Type 0} → (S → C → Option S) → Type 0
OpenCallsAreCalls {S} {C} effect = (start : S) (calls : List (Timed C)) (judge : TimedStanding S C) → IsJudgeOf effect start calls judge
    → (number : ℕ) → IsOpen judge number → (i : ℕ) × (timed : Timed C) × (slice_get calls i ≡ Some timed) × (timed.number ≡ number)

-- if some configuration is left and no call is pending, some order explains the calls
abbrev pub AllAreExplained : {S C : Type 0} → (S → C → Option S) → Type 0
AllAreExplained {S} {C} effect = (start : S) (calls : List (Timed C)) (judge : TimedStanding S C) → IsJudgeOf effect start calls judge → HasSome effect judge
    → ((number : ℕ) → IsOpen judge number → ⊥) → (order : List (Timed C)) × ExplainsTimed effect start calls order

-- the calls `more` are later: each begins after the end of every call that has ended
abbrev pub AreLater : {S C : Type 0} → List (Timed C) → TimedStanding S C → List (Timed C) → Type 0
AreLater {S} {C} calls judge more = (i j : ℕ) (call later : Timed C) → slice_get calls i ≡ Some call → (IsOpen judge call.number → ⊥)
    → slice_get more j ≡ Some later → call.end < later.begin

-- if no configuration is left, no order explains the calls, whatever calls begin later
abbrev pub NoneExplains : {S C : Type 0} → (S → C → Option S) → Type 0
NoneExplains {S} {C} effect = (start : S) (calls more : List (Timed C)) (judge : TimedStanding S C) → IsJudgeOf effect start calls judge
    → (HasSome effect judge → ⊥) → AreLater calls judge more → (order : List (Timed C)) → ExplainsTimed effect start (calls ++ more) order → ⊥

-- the calls whose numbers are taken, in their order
abbrev pub those_taken : {C : Type 0} → (ℕ → Bool) → List (Timed C) → List (Timed C)
those_taken taken calls = filter (λ timed. taken timed.number) calls

-- the number of each call that has ended is taken
abbrev pub AreTaken : {S C : Type 0} → List (Timed C) → TimedStanding S C → (ℕ → Bool) → Type 0
AreTaken {S} {C} calls judge taken = (i : ℕ) (timed : Timed C) → slice_get calls i ≡ Some timed → (IsOpen judge timed.number → ⊥) → taken timed.number ≡ true

-- if some configuration is left, some order explains the calls that have ended and some of the pending ones
abbrev pub SomeAreExplained : {S C : Type 0} → (S → C → Option S) → Type 0
SomeAreExplained {S} {C} effect = (start : S) (calls : List (Timed C)) (judge : TimedStanding S C) → IsJudgeOf effect start calls judge → HasSome effect judge
    → (taken : ℕ → Bool) × AreTaken calls judge taken × (order : List (Timed C)) × ExplainsTimed effect start (those_taken taken calls) order

-- if no configuration is left, no order explains the calls that have ended and any of the pending ones
abbrev pub NoneExplainsSome : {S C : Type 0} → (S → C → Option S) → Type 0
NoneExplainsSome {S} {C} effect = (start : S) (calls : List (Timed C)) (judge : TimedStanding S C) → IsJudgeOf effect start calls judge → (HasSome effect judge → ⊥)
    → (taken : ℕ → Bool) → AreTaken calls judge taken → (order : List (Timed C)) → ExplainsTimed effect start (those_taken taken calls) order → ⊥
