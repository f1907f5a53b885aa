-- Laws of completions, and examples of them. In the examples, the old byte is 0, which a new object contains. The new
-- byte is 7, which `put_byte` stores.
use Rattle.std.specs.Prelude.{◌≡◌, ◌↔◌, ℕ, ◌<◌, ◌≤◌, Bool, true, false, List, [], ◌∷◌, ◌++◌, length}
use Rattle.std.specs.List.{All}
use Rattle.model_intervals.specs.Completions.{EndsBy, EndsInTime, HasCompletion, IsFirstWrong, never}
use Rattle.model_intervals.specs.ExampleLaws.{first_object, get_byte, put_byte}
use Rattle.model_intervals.specs.Intervals.{Call, IsLinearizable}
use Rattle.model_intervals.specs.OverlappingCalls.{IsAt}

-- a `get` that ends while a `put` is pending
abbrev pub get_before_end : ℕ → List Call
get_before_end byte = first_object ∷ put_byte 0 2 9 ∷ get_byte 1 3 4 byte ∷ []

-- if the `get` returned the new byte, the pending `put` has had its effect
abbrev pub LoadedBytesAreStored : Type 0
LoadedBytesAreStored = HasCompletion (get_before_end 7) (EndsBy (get_before_end 7) 2)
    × ((completion : HasCompletion (get_before_end 7) (EndsBy (get_before_end 7) 2)) → completion.taken 1 ≡ true)

-- if the `get` returned the old byte, the pending `put` may be left out, or may have its effect later
abbrev pub PendingCallsAreFree : Type 0
PendingCallsAreFree = ((completion : HasCompletion (get_before_end 0) (EndsBy (get_before_end 0) 2)) × (completion.taken 1 ≡ false))
    × ((completion : HasCompletion (get_before_end 0) (EndsBy (get_before_end 0) 2)) × (completion.taken 1 ≡ true))

-- a `get` after the begin of a `put` that was pending when the recording stopped
abbrev pub get_behind_pending : ℕ → List Call
get_behind_pending byte = first_object ∷ put_byte 0 2 never ∷ get_byte 1 3 4 byte ∷ []

-- the `get` may return the new byte or the old one, and no other. If it returned the old byte, no order need have the
-- pending `put`
abbrev pub PendingPutsMayBeSeen : Type 0
PendingPutsMayBeSeen = HasCompletion (get_behind_pending 7) (EndsInTime (get_behind_pending 7))
    × ((completion : HasCompletion (get_behind_pending 0) (EndsInTime (get_behind_pending 0))) × (completion.taken 1 ≡ false))
    × (HasCompletion (get_behind_pending 1) (EndsInTime (get_behind_pending 1)) → ⊥)

-- two `get`, of which each returns a byte that no call stored. The one that is first in the list ends last
abbrev pub two_wrong_gets : List Call
two_wrong_gets = first_object ∷ get_byte 0 2 9 1 ∷ get_byte 1 3 4 1 ∷ []

-- only the one that ends first is the first wrong call
abbrev pub FirstToEndIsFirstWrong : Type 0
FirstToEndIsFirstWrong = IsFirstWrong two_wrong_gets 2 × (IsFirstWrong two_wrong_gets 1 → ⊥) × (IsFirstWrong two_wrong_gets 0 → ⊥)

-- two such `get` that end at the same moment
abbrev pub wrong_at_once : List Call
wrong_at_once = first_object ∷ get_byte 0 2 4 1 ∷ get_byte 1 3 4 1 ∷ []

-- only the one that is first in the list is the first wrong call
abbrev pub FirstInListIsFirstWrong : Type 0
FirstInListIsFirstWrong = IsFirstWrong wrong_at_once 1 × (IsFirstWrong wrong_at_once 2 → ⊥)

-- a stale `get`: it ends before a wrong `get` ends, and the `put` before it has ended
abbrev pub stale_get : List Call
stale_get = first_object ∷ put_byte 0 2 3 ∷ get_byte 1 4 5 0 ∷ get_byte 1 6 7 1 ∷ []

-- the stale `get` is the first wrong call
abbrev pub StaleReadIsFirstWrong : Type 0
StaleReadIsFirstWrong = IsFirstWrong stale_get 2 × (IsFirstWrong stale_get 3 → ⊥)

-- ---- all completions

-- if all calls have ended, they can be completed if and only if some order explains them
abbrev pub AllEndedAreLinearizable : Type 0
AllEndedAreLinearizable = (calls : List Call) → HasCompletion calls (λ i. i < length calls) ↔ IsLinearizable calls

-- if no call was pending when the recording stopped, the calls can be completed if and only if some order explains them
abbrev pub AllInTimeAreLinearizable : Type 0
AllInTimeAreLinearizable = (calls : List Call) → All (λ call. call.end < never) calls → HasCompletion calls (EndsInTime calls) ↔ IsLinearizable calls

-- if some order explains all calls, the calls can be completed, whichever of them were pending when the recording
-- stopped
abbrev pub ExplainedAreCompleted : Type 0
ExplainedAreCompleted = (calls : List Call) → IsLinearizable calls → HasCompletion calls (EndsInTime calls)

-- at most one call is the first wrong one
abbrev pub OneIsFirstWrong : Type 0
OneIsFirstWrong = (calls : List Call) (p q : ℕ) (a b : Call) → IsAt calls p a → IsAt calls q b → IsFirstWrong calls p → IsFirstWrong calls q → p ≡ q

-- no order explains the calls if and only if some call is the first wrong one: it can't be that none is
abbrev pub UnexplainedHaveFirstWrong : Type 0
UnexplainedHaveFirstWrong = (calls : List Call) → (IsLinearizable calls → ⊥) ↔ (((place : ℕ) → IsFirstWrong calls place → ⊥) → ⊥)

-- ---- later calls

-- each call that has ended is one of `calls`, and each call of `more` begins after its end
abbrev pub BeginLater : List Call → List Call → (ℕ → Type 0) → Type 0
BeginLater calls more ended = (i : ℕ) → ended i → (a : Call) × IsAt calls i a × ((j : ℕ) (b : Call) → IsAt more j b → a.end < b.begin)

-- calls that begin after each end don't change whether the calls can be completed
abbrev pub LaterCallsAreFree : Type 0
LaterCallsAreFree = (calls more : List Call) (ended : ℕ → Bool) → BeginLater calls more (λ i. ended i ≡ true)
    → HasCompletion calls (λ i. ended i ≡ true) ↔ HasCompletion (calls ++ more) (λ i. ended i ≡ true)

-- calls that begin after the end of a call, and end no earlier than they begin, don't change whether it is the first
-- wrong call
abbrev pub FirstWrongStays : Type 0
FirstWrongStays = (calls more : List Call) (place : ℕ) (last : Call) → IsAt calls place last
    → ((j : ℕ) (b : Call) → IsAt more j b → (last.end < b.begin) × (b.begin ≤ b.end)) → IsFirstWrong calls place ↔ IsFirstWrong (calls ++ more) place
