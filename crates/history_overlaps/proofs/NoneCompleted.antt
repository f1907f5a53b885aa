-- Calls can't be completed if one that ended in time is the first wrong one.
use Rattle.std.proofs.Common.{◌≡◌, ℕ, zero, suc, ◌+◌, ◌<◌, ◌≤◌, inl, inr, List, [], ◌∷◌, ◌++◌, Some, arith, length, refl, slice_get, subst, sym}
use Rattle.model_intervals.specs.Completions.{EndsBy, EndsInTime, HasCompletion, IsFirstWrong, never}
use Rattle.model_intervals.specs.Intervals.{Call}
use Rattle.model_intervals.specs.OverlappingCalls.{IsAt, IsHistory}
use Rattle.model_intervals.proofs.LaterCalls.{fewer_ended, first_wrong_stays}
use Rattle.history_overlaps.specs.Ends.{EndsAheadOf}
use Rattle.history_overlaps.specs.Lives.{BeginFrom}
use Rattle.history_overlaps.proofs.CallPlaces.{at_front, at_same}
use Rattle.history_overlaps.proofs.LivesWrong.{all_at}

-- the calls themselves
pub none_completed : (calls : List Call) (number : ℕ) → EndsInTime calls number → IsFirstWrong calls number → HasCompletion calls (EndsInTime calls) → ⊥
none_completed calls number (last, there, early) wrong completion = wrong.none (fewer_ended calls (EndsInTime calls) (EndsBy calls number) in_time completion)
  where
    in_time : (i : ℕ) → EndsBy calls number i → EndsInTime calls i
    in_time i (a, b, at_a, at_b, order) =
        let same : b ≡ last = at_same calls number b last at_b there in
        let least : b.end < never = subst (λ (c : Call). c.end < never) (sym same) early in
        (a, at_a, elim order [ inl less ↦ omega (arith, less, least) | inr equal ↦ let e = equal.0 in omega (arith, e, least) ])

-- a place behind some calls
at_behind : {X : Type 0} (xs ys : List X) (j k : ℕ) (y : X) → k ≡ length xs + j → slice_get ys j ≡ Some y → slice_get (xs ++ ys) k ≡ Some y
at_behind [] ys j k y e is = let same : j ≡ k = omega (arith, e) in subst (λ (n : ℕ). slice_get ys n ≡ Some y) same is
at_behind (x ∷ xs) ys j zero y e is = absurd (omega (arith, e))
at_behind (x ∷ xs) ys j (suc k) y e is = at_behind xs ys j k y (omega (arith, e)) is

-- the calls with others that begin after the end of the wrong one
pub none_completed_on : (calls more : List Call) (number moment : ℕ) → EndsAheadOf calls number moment → EndsInTime calls number → IsFirstWrong calls number → BeginFrom moment more
    → IsHistory (calls ++ more) → HasCompletion (calls ++ more) (EndsInTime (calls ++ more)) → ⊥
none_completed_on calls more number moment (last, there, ahead) (same, at_same_place, early) wrong from history completion =
    none_completed (calls ++ more) number (same, at_front calls more number same at_same_place, early)
    ((first_wrong_stays calls more number last there behind).0 wrong) completion
  where
    behind : (j : ℕ) (b : Call) → IsAt more j b → (last.end < b.begin) × (b.begin ≤ b.end)
    behind j b is = (
      (let begins = from j b is in omega (arith, ahead, begins)),
      all_at (λ (c : Call). c.begin ≤ c.end) (calls ++ more) (length calls + j) b history.take_time (at_behind calls more j (length calls + j) b refl is),
    )
