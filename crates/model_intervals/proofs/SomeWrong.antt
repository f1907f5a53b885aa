-- Where no order explains calls, some call is the first wrong one.
use Rattle.std.proofs.Common.{◌≡◌, ◌⊎◌, ℕ, zero, suc, ◌+◌, ◌<◌, inl, inr, false, List, [], ◌∷◌, arith, refl, sym, subst, ◌∙◌, Option, Some, None, length, slice_get}
use Rattle.std.proofs.lemmas.Bool.Decides.{eqb_tells}
use Rattle.std.proofs.lemmas.List.Sorted.{IsPermutation-refl}
use Rattle.std.proofs.lemmas.Option.{slice_get_within}
use Rattle.model_history.specs.Recorded.{any_allocator, nothing_recorded}
use Rattle.model_intervals.specs.Completions.{EndsBefore, EndsBy, HasCompletion, IsFirstWrong}
use Rattle.model_intervals.specs.CompletionLaws.{UnexplainedHaveFirstWrong}
use Rattle.model_intervals.specs.Intervals.{Call, IsLinearizable}
use Rattle.model_intervals.specs.OverlappingCalls.{IsAt}
use Rattle.model_intervals.proofs.AllEnded.{all_ended_are_linearizable}
use Rattle.model_intervals.proofs.LaterCalls.{fewer_ended, picked_none}

-- it can't be that there is none
abbrev IsSome : Type 0 → Type 0
IsSome X = (X → ⊥) → ⊥

-- the call at place `i` ends before the moment, or at the moment and is at a place below `p`
abbrev Up : List Call → ℕ → ℕ → ℕ → Type 0
Up calls moment p i = (a : Call) × IsAt calls i a × ((a.end < moment) ⊎ ((a.end ≡ moment) × (i < p)))

same_at : (calls : List Call) (i : ℕ) (a b : Call) → IsAt calls i a → IsAt calls i b → a ≡ b
same_at calls i a b here there = cc (here, there)

-- calls of which none has ended can be completed
none_ended : (calls : List Call) (ended : ℕ → Type 0) → ((i : ℕ) → ended i → ⊥) → HasCompletion calls ended
none_ended calls ended none = record {
  taken = λ i. false;
  all_ended = λ i over. absurd (none i over);
  explained = subst (λ xs. IsLinearizable xs) (sym (picked_none calls)) (
    [],
    record {
      same = IsPermutation-refl [];
      in_time = λ i j d before below. absurd (omega (arith, below));
      end = nothing_recorded any_allocator;
      legal = refl;
    },
  );
}

-- a moment after all ends
abbrev past : List Call → ℕ
past [] = 0
past (call ∷ calls) = suc (call.end + past calls)

all_past : (calls : List Call) (i : ℕ) (a : Call) → IsAt calls i a → a.end < past calls
all_past [] zero a is = cc is
all_past [] (suc i) a is = cc is
all_past (call ∷ calls) zero a is = let same : call ≡ a = cc is in subst (λ (c : Call). c.end < suc (call.end + past calls)) same (omega arith)
all_past (call ∷ calls) (suc i) a is = let later = all_past calls i a is in omega (arith, later)

within : {X : Type 0} (xs : List X) (i : ℕ) → i < length xs → (x : X) × (slice_get xs i ≡ Some x)
within [] i below = absurd (omega (arith, below))
within (x ∷ xs) zero below = (x, refl)
within (x ∷ xs) (suc i) below = within xs i (omega (arith, below))

module _ (calls : List Call) (none : (place : ℕ) → IsFirstWrong calls place → ⊥) where
  -- one place more
  step : (moment p : ℕ) → IsSome (HasCompletion calls (Up calls moment p)) → IsSome (HasCompletion calls (Up calls moment (suc p)))
  step moment p some = found (slice_get calls p) refl
    where
      less : (i : ℕ) → (i ≡ p → ⊥) → i < suc p → i < p
      less i apart below = grind (arith, apart)

      still : ((a : Call) → IsAt calls p a → a.end ≡ moment → ⊥) → IsSome (HasCompletion calls (Up calls moment (suc p)))
      still other = λ no. some (λ completion. no (fewer_ended calls (Up calls moment p) (Up calls moment (suc p)) up completion))
        where
          up : (i : ℕ) → Up calls moment (suc p) i → Up calls moment p i
          up i (a, at, inl early) = (a, at, inl early)
          up i (a, at, inr (now, below)) =
              (a, at, inr (now, less i (λ same. other a (subst (λ (n : ℕ). IsAt calls n a) same at) now) below))

      found : (o : Option Call) → slice_get calls p ≡ o → IsSome (HasCompletion calls (Up calls moment (suc p)))
      found None nothing = still (λ a at now. cc (nothing, at))
      found (Some b) there = elim (eqb_tells b.end moment) [
        | inr apart ↦ still (λ a at now. apart.1 (subst (λ (c : Call). c.end ≡ moment) (same_at calls p a b at there) now))
        | inl same ↦ λ no. some (λ completion. none p (record {
          before = fewer_ended calls (Up calls moment p) (EndsBefore calls p) (before same.1) completion;
          none = λ completion'. no (fewer_ended calls (EndsBy calls p) (Up calls moment (suc p)) (by same.1) completion');
        }))
      ]
        where
          before : b.end ≡ moment → (i : ℕ) → EndsBefore calls p i → Up calls moment p i
          before same i (x, y, at_x, at_y, order) =
              let order' = subst (λ (c : Call). (x.end < c.end) ⊎ ((x.end ≡ c.end) × (i < p))) (same_at calls p y b at_y there) order in
              (x, at_x, subst (λ (m : ℕ). (x.end < m) ⊎ ((x.end ≡ m) × (i < p))) same order')

          by : b.end ≡ moment → (i : ℕ) → Up calls moment (suc p) i → EndsBy calls p i
          by same i (a, at, inl early) = (a, b, at, there, inl (omega (arith, early, same)))
          by same i (a, at, inr (now, below)) = (a, b, at, there, inr (now ∙ sym same, omega (arith, below)))

  -- one moment more
  next : (moment : ℕ) → IsSome (HasCompletion calls (Up calls moment (length calls))) → IsSome (HasCompletion calls (Up calls (suc moment) 0))
  next moment some = λ no. some (λ completion. no (fewer_ended calls (Up calls moment (length calls)) (Up calls (suc moment) 0) up completion))
    where
      either : (m n : ℕ) → m < suc n → (m < n) ⊎ (m ≡ n)
      either m n below = grind arith

      up : (i : ℕ) → Up calls (suc moment) 0 i → Up calls moment (length calls) i
      up i (a, at, inl early) = (
        a,
        at,
        elim (either a.end moment early) [ inl before ↦ inl before | inr now ↦ inr (now, slice_get_within calls i a at) ],
      )
      up i (a, at, inr (now, below)) = absurd (omega (arith, below))

  row : (moment p : ℕ) → IsSome (HasCompletion calls (Up calls moment 0)) → IsSome (HasCompletion calls (Up calls moment p))
  row moment zero first = first
  row moment (suc p) first = step moment p (row moment p first)

  all : (moment : ℕ) → IsSome (HasCompletion calls (Up calls moment 0))
  all zero = λ no. no (none_ended calls (Up calls 0 0) nothing)
    where
      nothing : (i : ℕ) → Up calls 0 0 i → ⊥
      nothing i (a, at, inl early) = omega (arith, early)
      nothing i (a, at, inr (now, below)) = omega (arith, below)
  all (suc moment) = next moment (row moment (length calls) (all moment))

  some_order : IsSome (IsLinearizable calls)
  some_order = λ no. all (past calls) (λ completion. no ((all_ended_are_linearizable calls).0
      (fewer_ended calls (Up calls (past calls) 0) (λ i. i < length calls) (λ i below. let call = within calls i below in (call.0, call.1, inl (all_past calls i call.0 call.1)))
      completion)))

pub unexplained_have_first_wrong : UnexplainedHaveFirstWrong
unexplained_have_first_wrong calls = (
  λ unexplained none. some_order calls none unexplained,
  λ some explained. some (λ place wrong. wrong.none (fewer_ended calls (λ i. i < length calls) (EndsBy calls place)
      (λ i (a, b, at_a, at_b, order). slice_get_within calls i a at_a) ((all_ended_are_linearizable calls).1 explained))),
)
