-- Completions of calls of which all have ended, and why at most one call is the first wrong one.
use Rattle.std.proofs.Common.{◌≡◌, ◌⊎◌, ℕ, suc, ◌<◌, ◌≤◌, inl, inr, Bool, true, List, [], ◌∷◌, arith, refl, sym, subst, ap, length}
use Rattle.model_intervals.specs.Completions.{EndsBefore, EndsBy, IsFirstWrong, picked}
use Rattle.model_intervals.specs.CompletionLaws.{AllEndedAreLinearizable, OneIsFirstWrong}
use Rattle.model_intervals.specs.Intervals.{Call, IsLinearizable}
use Rattle.model_intervals.specs.OverlappingCalls.{IsAt}
use Rattle.model_intervals.proofs.LaterCalls.{fewer_ended}

-- ---- all calls have ended

-- if each place is taken, all calls are picked
pub picked_all : (taken : ℕ → Bool) (calls : List Call) → ((i : ℕ) → i < length calls → taken i ≡ true) → picked taken calls ≡ calls
picked_all taken [] all = refl
picked_all taken (call ∷ calls) all =
    rw (all 0 (omega arith)) (ap (λ l. call ∷ l) (picked_all (λ i. taken (suc i)) calls (λ i below. all (suc i) (omega (arith, below)))))

pub all_ended_are_linearizable : AllEndedAreLinearizable
all_ended_are_linearizable calls = (
  λ completion. subst (λ xs. IsLinearizable xs) (picked_all completion.taken calls completion.all_ended) completion.explained,
  λ explained. record {
    taken = λ i. true;
    all_ended = λ i over. refl;
    explained = subst (λ xs. IsLinearizable xs) (sym (picked_all (λ i. true) calls (λ i below. refl))) explained;
  },
)

-- ---- one first wrong call

same_at : (calls : List Call) (i : ℕ) (a b : Call) → IsAt calls i a → IsAt calls i b → a ≡ b
same_at calls i a b here there = cc (here, there)

-- one of two numbers is the smaller one, or they are equal
compared : (m n : ℕ) → (m < n) ⊎ ((m ≡ n) ⊎ (n < m))
compared m n = grind arith

-- the first call is before the second one, in the order of ends
abbrev Precedes : ℕ → Call → ℕ → Call → Type 0
Precedes p a q b = (a.end < b.end) ⊎ ((a.end ≡ b.end) × (p < q))

in_order : (p q : ℕ) (a b : Call) → Precedes p a q b ⊎ ((p ≡ q) ⊎ Precedes q b p a)
in_order p q a b = elim (compared a.end b.end) [
  | inl less ↦ inl (inl less)
  | inr (inr more) ↦ inr (inr (inl more))
  | inr (inl same) ↦ elim (compared p q) [
    | inl less ↦ inl (inr (same, less))
    | inr (inl one) ↦ inr (inl one)
    | inr (inr more) ↦ inr (inr (inr (sym same, more)))
  ]
]

on_before : (calls : List Call) (p q : ℕ) (a b : Call) → IsAt calls p a → IsAt calls q b → Precedes p a q b → (i : ℕ) → EndsBy calls p i → EndsBefore calls q i
on_before calls p q a b at_a at_b before i (x, y, at_x, at_y, order) =
    (x, b, at_x, at_b, chained (subst (λ (c : Call). (x.end < c.end) ⊎ ((x.end ≡ c.end) × (i ≤ p))) (same_at calls p y a at_y at_a) order) before)
  where
    chained : (x.end < a.end) ⊎ ((x.end ≡ a.end) × (i ≤ p)) → Precedes p a q b → (x.end < b.end) ⊎ ((x.end ≡ b.end) × (i < q))
    chained (inl less) (inl later) = inl (omega (arith, less, later))
    chained (inl less) (inr (same, lower)) = inl (omega (arith, less, same))
    chained (inr (same, low)) (inl later) = inl (omega (arith, same, later))
    chained (inr (same, low)) (inr (same', lower)) = inr (omega (arith, same, same'), omega (arith, low, lower))

-- the first of two calls isn't wrong if the other one is the first wrong call
none_before : (calls : List Call) (p q : ℕ) (a b : Call) → IsAt calls p a → IsAt calls q b → Precedes p a q b → IsFirstWrong calls p → IsFirstWrong calls q → ⊥
none_before calls p q a b at_a at_b before first second =
    first.none (fewer_ended calls (EndsBefore calls q) (EndsBy calls p) (on_before calls p q a b at_a at_b before) second.before)

pub one_is_first_wrong : OneIsFirstWrong
one_is_first_wrong calls p q a b at_a at_b first second = elim (in_order p q a b) [
  | inl before ↦ absurd (none_before calls p q a b at_a at_b before first second)
  | inr (inl same) ↦ same
  | inr (inr after) ↦ absurd (none_before calls q p b a at_b at_a after second first)
]
