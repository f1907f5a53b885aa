-- What the laws of completions are proved by: which calls are picked, and when one call ends by another.
use Rattle.std.proofs.Common.{◌≡◌, ◌⊎◌, inl, inr, ℕ, zero, suc, ◌<◌, ◌≤◌, Bool, true, false, List, [], ◌∷◌, refl, subst}
use Rattle.model_intervals.specs.Completions.{EndsBefore, EndsBy, EndsInTime, HasCompletion, never, picked}
use Rattle.model_intervals.specs.Intervals.{Call, IsLinearizable}
use Rattle.model_intervals.specs.OverlappingCalls.{IsAt}

pub tells : (b : Bool) → (b ≡ true) ⊎ (b ≡ false)
tells true = inl refl
tells false = inr refl

-- ---- the order of ends

-- one place has one call
same_call : (calls : List Call) (i : ℕ) (a b : Call) → IsAt calls i a → IsAt calls i b → a ≡ b
same_call calls i a b here there = cc (here, there)

pub ends_by : (calls : List Call) (place i : ℕ) (a b : Call) → IsAt calls i a → IsAt calls place b → EndsBy calls place i
    → (a.end < b.end) ⊎ ((a.end ≡ b.end) × (i ≤ place))
ends_by calls place i a b at_a at_b (c, d, at_c, at_d, order) =
    subst (λ (x : Call). (x.end < b.end) ⊎ ((x.end ≡ b.end) × (i ≤ place))) (same_call calls i c a at_c at_a)
    (subst (λ (y : Call). (c.end < y.end) ⊎ ((c.end ≡ y.end) × (i ≤ place))) (same_call calls place d b at_d at_b) order)

pub ends_before : (calls : List Call) (place i : ℕ) (a b : Call) → IsAt calls i a → IsAt calls place b → EndsBefore calls place i
    → (a.end < b.end) ⊎ ((a.end ≡ b.end) × (i < place))
ends_before calls place i a b at_a at_b (c, d, at_c, at_d, order) =
    subst (λ (x : Call). (x.end < b.end) ⊎ ((x.end ≡ b.end) × (i < place))) (same_call calls i c a at_c at_a)
    (subst (λ (y : Call). (c.end < y.end) ⊎ ((c.end ≡ y.end) × (i < place))) (same_call calls place d b at_d at_b) order)

pub ends_in_time : (calls : List Call) (i : ℕ) (a : Call) → IsAt calls i a → EndsInTime calls i → a.end < never
ends_in_time calls i a at_a (b, at_b, less) = subst (λ (x : Call). x.end < never) (same_call calls i b a at_b at_a) less

-- ---- completions of three calls

-- all places but the second and the third
abbrev pub first_only : ℕ → Bool
first_only (suc zero) = false
first_only (suc (suc zero)) = false
first_only i = true

-- all places but the second
abbrev pub without_second : ℕ → Bool
without_second (suc zero) = false
without_second i = true

module _ (a b c : Call) where
  all_three : (taken : ℕ → Bool) → taken 0 ≡ true → taken 1 ≡ true → taken 2 ≡ true → picked taken (a ∷ b ∷ c ∷ []) ≡ a ∷ b ∷ c ∷ []
  all_three taken first second third = rw (first, second, third) refl

  first_and_third : (taken : ℕ → Bool) → taken 0 ≡ true → taken 1 ≡ false → taken 2 ≡ true → picked taken (a ∷ b ∷ c ∷ []) ≡ a ∷ c ∷ []
  first_and_third taken first second third = rw (first, second, third) refl

  first_and_second : (taken : ℕ → Bool) → taken 0 ≡ true → taken 1 ≡ true → taken 2 ≡ false → picked taken (a ∷ b ∷ c ∷ []) ≡ a ∷ b ∷ []
  first_and_second taken first second third = rw (first, second, third) refl

  module _ (ended : ℕ → Type 0) where
    -- only the first call has its effect
    pub first_completes : (ended 1 → ⊥) → (ended 2 → ⊥) → IsLinearizable (a ∷ []) → HasCompletion (a ∷ b ∷ c ∷ []) ended
    first_completes second third explained = record { taken = first_only; all_ended = all; explained = explained }
      where
        all : (i : ℕ) → ended i → first_only i ≡ true
        all zero over = refl
        all (suc zero) over = absurd (second over)
        all (suc (suc zero)) over = absurd (third over)
        all (suc (suc (suc i))) over = refl

    -- all but the second have their effects
    pub others_complete : (ended 1 → ⊥) → IsLinearizable (a ∷ c ∷ []) → (completion : HasCompletion (a ∷ b ∷ c ∷ []) ended) × (completion.taken 1 ≡ false)
    others_complete second explained = (record { taken = without_second; all_ended = all; explained = explained }, refl)
      where
        all : (i : ℕ) → ended i → without_second i ≡ true
        all zero over = refl
        all (suc zero) over = absurd (second over)
        all (suc (suc i)) over = refl

    -- all have their effects
    pub all_complete : IsLinearizable (a ∷ b ∷ c ∷ []) → (completion : HasCompletion (a ∷ b ∷ c ∷ []) ended) × (completion.taken 1 ≡ true)
    all_complete explained = (record { taken = λ i. true; all_ended = λ i over. refl; explained = explained }, refl)

    -- the first and the third have ended, but the third is wrong without the second
    pub second_is_taken : ended 0 → ended 2 → (IsLinearizable (a ∷ c ∷ []) → ⊥) → (completion : HasCompletion (a ∷ b ∷ c ∷ []) ended) → completion.taken 1 ≡ true
    second_is_taken first third wrong completion = elim (tells (completion.taken 1)) [
      | inl is ↦ is
      | inr not ↦ absurd (wrong (subst (λ xs. IsLinearizable xs)
          (first_and_third completion.taken (completion.all_ended 0 first) not (completion.all_ended 2 third)) completion.explained))
    ]

    -- the third is wrong
    pub third_is_wrong : ended 0 → ended 2 → (IsLinearizable (a ∷ c ∷ []) → ⊥) → (IsLinearizable (a ∷ b ∷ c ∷ []) → ⊥) → HasCompletion (a ∷ b ∷ c ∷ []) ended → ⊥
    third_is_wrong first third wrong wrong' completion =
        wrong' (subst (λ xs. IsLinearizable xs) (all_three completion.taken (completion.all_ended 0 first) (second_is_taken first third wrong completion)
        (completion.all_ended 2 third)) completion.explained)

    -- the second is wrong
    pub second_is_wrong : ended 0 → ended 1 → (IsLinearizable (a ∷ b ∷ []) → ⊥) → (IsLinearizable (a ∷ b ∷ c ∷ []) → ⊥) → HasCompletion (a ∷ b ∷ c ∷ []) ended → ⊥
    second_is_wrong first second wrong wrong' completion = elim (tells (completion.taken 2)) [
      | inl is ↦ wrong' (subst (λ xs. IsLinearizable xs)
          (all_three completion.taken (completion.all_ended 0 first) (completion.all_ended 1 second) is) completion.explained)
      | inr not ↦ wrong (subst (λ xs. IsLinearizable xs)
          (first_and_second completion.taken (completion.all_ended 0 first) (completion.all_ended 1 second) not) completion.explained)
    ]

-- ---- completions of four calls

-- the first and the second place, and those behind the list
abbrev pub first_two : ℕ → Bool
first_two (suc (suc zero)) = false
first_two (suc (suc (suc zero))) = false
first_two i = true

module _ (a b c d : Call) (ended : ℕ → Type 0) where
  all_four : (taken : ℕ → Bool) → taken 0 ≡ true → taken 1 ≡ true → taken 2 ≡ true → taken 3 ≡ true → picked taken (a ∷ b ∷ c ∷ d ∷ []) ≡ a ∷ b ∷ c ∷ d ∷ []
  all_four taken first second third fourth = rw (first, second, third, fourth) refl

  first_three : (taken : ℕ → Bool) → taken 0 ≡ true → taken 1 ≡ true → taken 2 ≡ true → taken 3 ≡ false → picked taken (a ∷ b ∷ c ∷ d ∷ []) ≡ a ∷ b ∷ c ∷ []
  first_three taken first second third fourth = rw (first, second, third, fourth) refl

  pub first_two_complete : (ended 2 → ⊥) → (ended 3 → ⊥) → IsLinearizable (a ∷ b ∷ []) → HasCompletion (a ∷ b ∷ c ∷ d ∷ []) ended
  first_two_complete third fourth explained = record { taken = first_two; all_ended = all; explained = explained }
    where
      all : (i : ℕ) → ended i → first_two i ≡ true
      all zero over = refl
      all (suc zero) over = refl
      all (suc (suc zero)) over = absurd (third over)
      all (suc (suc (suc zero))) over = absurd (fourth over)
      all (suc (suc (suc (suc i)))) over = refl

  -- the third is wrong
  pub third_of_four_is_wrong : ended 0 → ended 1 → ended 2 → (IsLinearizable (a ∷ b ∷ c ∷ []) → ⊥) → (IsLinearizable (a ∷ b ∷ c ∷ d ∷ []) → ⊥)
      → HasCompletion (a ∷ b ∷ c ∷ d ∷ []) ended → ⊥
  third_of_four_is_wrong first second third wrong wrong' completion = elim (tells (completion.taken 3)) [
    | inl is ↦ wrong' (subst (λ xs. IsLinearizable xs) (all_four completion.taken (completion.all_ended 0 first) (completion.all_ended 1 second)
        (completion.all_ended 2 third) is) completion.explained)
    | inr not ↦ wrong (subst (λ xs. IsLinearizable xs) (first_three completion.taken (completion.all_ended 0 first) (completion.all_ended 1 second)
        (completion.all_ended 2 third) not) completion.explained)
  ]
