-- Completions: which calls have had their effects, if some of the calls are pending. This project's own choice.
use Rattle.std.specs.Prelude.{◌≡◌, ◌⊎◌, ℕ, suc, ◌<◌, ◌≤◌, Bool, true, if◌then◌else◌, List, [], ◌∷◌}
use Rattle.model_intervals.specs.Intervals.{Call, IsLinearizable}
use Rattle.model_intervals.specs.OverlappingCalls.{IsAt}

-- the calls at the places of the list for which `taken` is true, in their order
abbrev pub picked : (ℕ → Bool) → List Call → List Call
picked taken [] = []
picked taken (call ∷ calls) = if taken 0 then call ∷ picked (λ i. taken (suc i)) calls else picked (λ i. taken (suc i)) calls

-- the calls can be completed, if those at the places in `ended` have ended and the others are pending: each call that
-- has ended has had its effect, and of the pending calls some have. Some order explains these calls
pub record HasCompletion (calls : List Call) (ended : ℕ → Type 0) : Type 0 where
  pub taken : ℕ → Bool
  pub all_ended : (i : ℕ) → ended i → taken i ≡ true
  pub explained : IsLinearizable (picked taken calls)

-- the moment at which a call ends that was pending when the recording stopped. It is after each moment of a recording
abbrev pub never : ℕ
never = 18446744073709551616

-- the call at place `i` ended before the recording stopped
abbrev pub EndsInTime : List Call → ℕ → Type 0
EndsInTime calls i = (a : Call) × IsAt calls i a × (a.end < never)

-- the call at place `i` is the one at `place` or ends before it, in the order of ends: first by the ends, then by the
-- places in the list
abbrev pub EndsBy : List Call → ℕ → ℕ → Type 0
EndsBy calls place i = (a b : Call) × IsAt calls i a × IsAt calls place b × ((a.end < b.end) ⊎ ((a.end ≡ b.end) × (i ≤ place)))

-- the call at place `i` is before the one at `place`, in the order of ends
abbrev pub EndsBefore : List Call → ℕ → ℕ → Type 0
EndsBefore calls place i = (a b : Call) × IsAt calls i a × IsAt calls place b × ((a.end < b.end) ⊎ ((a.end ≡ b.end) × (i < place)))

-- the call at this place is the first wrong call by its end: without it, the calls up to it in the order of ends can be
-- completed, and with it they can't
pub record IsFirstWrong (calls : List Call) (place : ℕ) : Type 0 where
  pub before : HasCompletion calls (EndsBefore calls place)
  pub none : HasCompletion calls (EndsBy calls place) → ⊥
