-- One picked call more, and one less.
use Rattle.std.proofs.Common.{◌≡◌, ◌≢◌, ◌⊎◌, ℕ, zero, suc, inl, inr, Bool, true, false, List, [], ◌∷◌, ◌++◌, refl, sym, subst, ◌∙◌, ap, Some}
use Rattle.std.specs.List.Sorted.{IsPermutation}
use Rattle.std.proofs.lemmas.List.Sorted.{IsPermutation-cons, IsPermutation-middle, IsPermutation-refl, IsPermutation-trans}
use Rattle.model_intervals.specs.Completions.{picked}
use Rattle.model_intervals.specs.Intervals.{Call}
use Rattle.model_intervals.specs.OverlappingCalls.{IsAt}
use Rattle.model_intervals.proofs.Lists.{tells}
use Rattle.model_intervals.proofs.Picks.{Picks}

-- the same places without this one
abbrev pub without : ℕ → (ℕ → Bool) → ℕ → Bool
without zero taken zero = false
without zero taken (suc j) = taken (suc j)
without (suc i) taken zero = taken 0
without (suc i) taken (suc j) = without i (λ k. taken (suc k)) j

-- the same places with this one
abbrev pub with : ℕ → (ℕ → Bool) → ℕ → Bool
with zero taken zero = true
with zero taken (suc j) = taken (suc j)
with (suc i) taken zero = taken 0
with (suc i) taken (suc j) = with i (λ k. taken (suc k)) j

pub without_it : (i : ℕ) (taken : ℕ → Bool) → without i taken i ≡ false
without_it zero taken = refl
without_it (suc i) taken = without_it i (λ k. taken (suc k))

pub without_other : (i j : ℕ) (taken : ℕ → Bool) → j ≢ i → without i taken j ≡ taken j
without_other zero zero taken apart = absurd (apart refl)
without_other zero (suc j) taken apart = refl
without_other (suc i) zero taken apart = refl
without_other (suc i) (suc j) taken apart = without_other i j (λ k. taken (suc k)) (λ same. apart (ap suc same))

pub with_it : (i : ℕ) (taken : ℕ → Bool) → with i taken i ≡ true
with_it zero taken = refl
with_it (suc i) taken = with_it i (λ k. taken (suc k))

pub with_other : (i j : ℕ) (taken : ℕ → Bool) → j ≢ i → with i taken j ≡ taken j
with_other zero zero taken apart = absurd (apart refl)
with_other zero (suc j) taken apart = refl
with_other (suc i) zero taken apart = refl
with_other (suc i) (suc j) taken apart = with_other i j (λ k. taken (suc k)) (λ same. apart (ap suc same))

-- a choice of one of the picked calls leaves the others
pub record PicksAt (x : Call) (rest : List Call) (taken : ℕ → Bool) (calls : List Call) : Type 0 where
  pub place : ℕ
  pub there : IsAt calls place x
  pub on : taken place ≡ true
  pub leaves : rest ≡ picked (without place taken) calls

pub picks_at : (taken : ℕ → Bool) (calls : List Call) (x : Call) (rest : List Call) → Picks x rest (picked taken calls) → PicksAt x rest taken calls
picks_at taken [] x rest picks = absurd picks
picks_at taken (call ∷ calls) x rest picks = elim (tells (taken 0)) [
  | inl on ↦ (
      let picks' : Picks x rest (call ∷ picked (λ j. taken (suc j)) calls) = rw on at picks in
      elim picks' [
        | inl here ↦ record { place = 0; there = ap (λ (c : Call). Some c) here.0; on = on; leaves = here.1 }
        | inr later ↦ (
            let found = picks_at (λ j. taken (suc j)) calls x later.0 later.2 in record {
              place = suc found.place;
              there = found.there;
              on = found.on;
              leaves = later.1 ∙ rw on (ap (λ l. call ∷ l) found.leaves);
            })
      ])
  | inr off ↦ (
      let picks' : Picks x rest (picked (λ j. taken (suc j)) calls) = rw off at picks in
      let found = picks_at (λ j. taken (suc j)) calls x rest picks' in
      record { place = suc found.place; there = found.there; on = found.on; leaves = rw off found.leaves })
]

-- a choice of one of two lists
pub picks_either : (xs ys : List Call) (x : Call) (rest : List Call) → Picks x rest (xs ++ ys)
    → ((others : List Call) × Picks x others xs × (rest ≡ others ++ ys)) ⊎ ((others : List Call) × Picks x others ys × (rest ≡ xs ++ others))
picks_either [] ys x rest picks = inr (rest, picks, refl)
picks_either (c ∷ xs) ys x rest picks = elim picks [
  | inl here ↦ inl (xs, inl (here.0, refl), here.1)
  | inr later ↦ elim (picks_either xs ys x later.0 later.2) [
    | inl front ↦ inl (c ∷ front.0, inr (front.0, refl, front.1), later.1 ∙ ap (λ l. c ∷ l) front.2)
    | inr back ↦ inr (back.0, back.1, later.1 ∙ ap (λ l. c ∷ l) back.2)
  ]
]

-- the picked calls with one more
pub with_one : (taken : ℕ → Bool) (calls : List Call) (i : ℕ) (x : Call) → IsAt calls i x → taken i ≡ false → IsPermutation (x ∷ picked taken calls) (picked (with i taken) calls)
with_one taken [] zero x is off = cc is
with_one taken [] (suc i) x is off = cc is
with_one taken (call ∷ calls) zero x is off =
    let same : call ≡ x = cc is in
    rw off (subst (λ (c : Call). IsPermutation (x ∷ picked (λ j. taken (suc j)) calls) (c ∷ picked (λ j. taken (suc j)) calls)) (sym same)
    (IsPermutation-refl (x ∷ picked (λ j. taken (suc j)) calls)))
with_one taken (call ∷ calls) (suc i) x is off =
    let later = with_one (λ j. taken (suc j)) calls i x is off in
    elim (tells (taken 0)) [
      | inl on ↦ rw on (IsPermutation-trans (x ∷ call ∷ picked (λ j. taken (suc j)) calls) (call ∷ x ∷ picked (λ j. taken (suc j)) calls)
          (call ∷ picked (with i (λ j. taken (suc j))) calls) (IsPermutation-middle (x ∷ []) call (picked (λ j. taken (suc j)) calls))
          (IsPermutation-cons call (x ∷ picked (λ j. taken (suc j)) calls) (picked (with i (λ j. taken (suc j))) calls) later))
      | inr not ↦ rw not later
    ]
