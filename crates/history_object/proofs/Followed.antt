-- A timed judge before and after a begin and an end, by its standing and its numbers.
use Rattle.std.proofs.Common.{◌≡◌, ℕ, zero, suc, List, [], ◌∷◌, ◌++◌, Option, Some, None, replicate, slice_get, slice_set, subst, refl, sym}
use Rattle.history_object.specs.Placed.{none_taken}
use Rattle.history_object.specs.Standings.{Begins, Ends, HasPassed, Standing, first_standing, none_pending}
use Rattle.history_object.specs.TimedCalls.{Timed}
use Rattle.history_object.specs.Following.{AreNumbered, CanBegin, IsJudgeOf, IsNumberOf, IsNumbered, TimedStanding}
use Rattle.history_object.proofs.Begin.{follows_begin}
use Rattle.history_object.proofs.End.{follows_end}
use Rattle.history_object.proofs.Places.{places_begun, places_ended}

-- a judge that follows calls becomes one that follows these and the call that begins
abbrev pub IsFollowedOn : {S C : Type 0} → (S → C → Option S) → ℕ → C → TimedStanding S C → TimedStanding S C → Type 0
IsFollowedOn {S} {C} effect number call judge judge' = (start : S) (calls : List (Timed C)) (begin end : ℕ) → IsJudgeOf effect start calls judge
    → CanBegin calls judge (record { number = number; begin = begin; end = end; call = call })
    → IsJudgeOf effect start (calls ++ record { number = number; begin = begin; end = end; call = call } ∷ []) judge'

pub begin_is_followed : {S C : Type 0} → (effect : S → C → Option S) (standing standing' : Standing S C) (numbers : List (Option ℕ)) (p number : ℕ) (call : C)
    → slice_get numbers p ≡ Some None → HasPassed effect (Begins p call) standing standing'
    → IsFollowedOn effect number call (record { standing = standing; numbers = numbers }) (record { standing = standing'; numbers = slice_set numbers p (Some number) })
begin_is_followed effect standing standing' numbers p number call free passed start calls begin end is can =
    follows_begin effect start calls (record { number = number; begin = begin; end = end; call = call }) (record { standing = standing; numbers = numbers })
    (record { standing = standing'; numbers = slice_set numbers p (Some number) }) is can
    (record { place = p; free = free; numbers = refl; passed = passed; open_now = λ n. places_begun numbers p number n free })

-- a judge that follows calls stays one of these
abbrev pub IsFollowedToEnd : {S C : Type 0} → (S → C → Option S) → TimedStanding S C → TimedStanding S C → Type 0
IsFollowedToEnd {S} {C} effect judge judge' = (start : S) (calls : List (Timed C)) → IsJudgeOf effect start calls judge → IsJudgeOf effect start calls judge'

pub end_is_followed : {S C : Type 0} → (effect : S → C → Option S) (standing standing' : Standing S C) (numbers : List (Option ℕ)) (p number : ℕ)
    → slice_get numbers p ≡ Some (Some number) → ((q : ℕ) → slice_get numbers q ≡ Some (Some number) → p ≡ q) → HasPassed effect (Ends p) standing standing'
    → IsFollowedToEnd effect (record { standing = standing; numbers = numbers }) (record { standing = standing'; numbers = slice_set numbers p None })
end_is_followed effect standing standing' numbers p number here once passed start calls is =
    follows_end effect start calls number (record { standing = standing; numbers = numbers }) (record { standing = standing'; numbers = slice_set numbers p None }) is
    (record { place = p; here = here; numbers = refl; passed = passed; open_now = λ n. places_ended numbers p number n here once })

-- at first no call is pending
pub no_number : (n k number : ℕ) → slice_get (replicate n None) k ≡ Some (Some number) → ⊥
no_number zero k number h = cc
no_number (suc n) zero number h = cc
no_number (suc n) (suc k) number h = no_number n k number h

none_numbered : (C : Type 0) (n k : ℕ) → IsNumbered {C = C} (slice_get (replicate n None) k) (slice_get (replicate n None) k)
none_numbered C zero k = tt
none_numbered C (suc n) zero = tt
none_numbered C (suc n) (suc k) = none_numbered C n k

none_have_calls : {C : Type 0} → (calls : List (Timed C)) (n k : ℕ) → IsNumberOf calls (slice_get (replicate n None) k) (slice_get (replicate n None) k)
none_have_calls calls zero k = tt
none_have_calls calls (suc n) zero = tt
none_have_calls calls (suc n) (suc k) = none_have_calls calls n k

pub numbered_first : {C : Type 0} → (pending : List (Option C)) (numbers : List (Option ℕ)) → pending ≡ none_pending → numbers ≡ none_taken → AreNumbered pending numbers
numbered_first {C} pending numbers is are =
    let first : AreNumbered {C = C} none_pending none_taken =
    record { all = refl; each = λ k. none_numbered C 64 k; once = λ p q number h k. absurd (no_number 64 p number h) } in
    subst (λ xs. AreNumbered xs numbers) (sym is) (subst (λ ys. AreNumbered {C = C} none_pending ys) (sym are) first)

-- the first judge follows no calls
pub first_is_followed : {S C : Type 0} → (effect : S → C → Option S) (start : S) → IsJudgeOf effect start [] (record { standing = first_standing start; numbers = none_taken })
first_is_followed effect start = record {
  events = [];
  placed = [];
  are_placed = tt;
  have_passed = refl;
  all_begun = refl;
  have_begun = λ i ended. absurd ended;
  numbered = λ k. none_have_calls [] 64 k;
  own = λ i j a b at_i at_j same. cc (at_i);
  take_time = λ i timed at. cc (at);
  overlap = λ i j a b at_i at_j open'. cc (at_i);
  ended = λ i timed at. cc (at);
  before = λ i j a b at_i at_j. cc (at_i);
}
