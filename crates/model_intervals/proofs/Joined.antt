-- One list of all calls: the lists of the cells, merged one after another.
use Rattle.std.proofs.Common.{◌≡◌, ℕ, zero, suc, ◌<◌, ◌≤◌, ◌⊎◌, true, false, nat_eq, nat_lt, List, [], ◌∷◌, ◌++◌, arith, refl, sym, subst, ◌∙◌, inl, inr}
use Rattle.std.specs.List.{filter}
use Rattle.std.specs.List.Sorted.{IsPermutation}
use Rattle.std.proofs.lemmas.Bool.{eqb-true, lt-ltb, ne_eqb}
use Rattle.std.proofs.lemmas.Bool.Decides.{nat_tests, eqb_tells, leb_tells}
use Rattle.std.proofs.lemmas.List.Sorted.{IsPermutation-append, IsPermutation-cons, IsPermutation-middle, IsPermutation-refl, IsPermutation-sym, IsPermutation-trans}
use Rattle.model_intervals.specs.Intervals.{Call}
use Rattle.model_intervals.specs.KeyedOrders.{Keyed, calls_of}
use Rattle.model_intervals.specs.OverlappingCalls.{cell_at}
use Rattle.model_intervals.proofs.MiddleForm.{of_cell}
use Rattle.model_intervals.proofs.Filtered.{filter_none}
use Rattle.model_intervals.proofs.Lists.{Every, Pairs, every_map, every_weaker, tells}
use Rattle.model_intervals.proofs.Merged.{Rises, merge, merge_every, merge_other, merge_own, merge_pairs, merge_same}

-- the merged lists of the cells below a number
abbrev pub joined : (ℕ → List Keyed) → ℕ → List Keyed
joined lives zero = []
joined lives (suc n) = merge (lives n) (joined lives n)

-- each cell's list has only calls of that cell
abbrev pub AreOwn : (ℕ → List Keyed) → Type 0
AreOwn lives = (c : ℕ) → Every (λ p. nat_eq (cell_at p.call) c ≡ true) (lives c)

pub joined_rise : (lives : ℕ → List Keyed) (n : ℕ) → Pairs Rises (joined lives n)
joined_rise lives zero = tt
joined_rise lives (suc n) = merge_pairs (lives n) (joined lives n) (joined_rise lives n)

pub joined_every : (P : Keyed → Type 0) (lives : ℕ → List Keyed) → ((c : ℕ) → Every P (lives c)) → (n : ℕ) → Every P (joined lives n)
joined_every P lives h zero = tt
joined_every P lives h (suc n) = merge_every P (lives n) (joined lives n) (h n) (joined_every P lives h n)

joined_below : (lives : ℕ → List Keyed) → AreOwn lives → (n : ℕ) → Every (λ p. cell_at p.call < n) (joined lives n)
joined_below lives own zero = tt
joined_below lives own (suc n) = merge_every (λ p. cell_at p.call < suc n) (lives n) (joined lives n)
    (every_weaker (λ p. nat_eq (cell_at p.call) n ≡ true) (λ p. cell_at p.call < suc n) (lives n) (λ p h. let is = eqb-true (cell_at p.call) n h in omega (arith, is)) (own n))
    (every_weaker (λ p. cell_at p.call < n) (λ p. cell_at p.call < suc n) (joined lives n) (λ p h. omega (arith, h)) (joined_below lives own n))

-- the merge has no calls of other cells
joined_no_more : (lives : ℕ → List Keyed) → AreOwn lives → (n c : ℕ) → n ≤ c → of_cell c (calls_of (joined lives n)) ≡ []
joined_no_more lives own n c beyond = filter_none (λ call. nat_eq (cell_at call) c) (calls_of (joined lives n))
    (every_map (λ p. p.call) (λ call. nat_eq (cell_at call) c ≡ false) (joined lives n)
    (every_weaker (λ p. cell_at p.call < n) (λ p. nat_eq (cell_at p.call) c ≡ false) (joined lives n)
    (λ p h. ne_eqb (cell_at p.call) c (λ is. omega (arith, is, h, beyond))) (joined_below lives own n)))

-- the merge keeps each cell's order
joined_restricts : (lives : ℕ → List Keyed) → AreOwn lives → ((c : ℕ) → Pairs Rises (lives c)) → (n c : ℕ) → c < n → of_cell c (calls_of (joined lives n)) ≡ calls_of (lives c)
joined_restricts lives own rise zero c below = absurd (omega (arith, below))
joined_restricts lives own rise (suc n) c below = elim (eqb_tells n c) [
  | inl same ↦ subst (λ j. of_cell j (calls_of (merge (lives n) (joined lives n))) ≡ calls_of (lives j)) same.1 (
      merge_own n (lives n) (joined lives n) (own n) (rise n)
      (every_weaker (λ p. cell_at p.call < n) (λ p. nat_eq (cell_at p.call) n ≡ false) (joined lives n) (λ p h. ne_eqb (cell_at p.call) n (λ is. omega (arith, is, h))) (joined_below lives own n))
      (joined_no_more lives own n n (omega arith))
      )
  | inr apart ↦
      merge_other c (lives n) (joined lives n)
      (every_weaker (λ p. nat_eq (cell_at p.call) n ≡ true) (λ p. nat_eq (cell_at p.call) c ≡ false) (lives n)
      (λ p h. ne_eqb (cell_at p.call) c (λ too. apart.1 (sym (eqb-true (cell_at p.call) n h) ∙ too))) (own n))
      ∙ joined_restricts lives own rise n c (let differ = apart.1 in omega (arith, below, differ))
]

-- filtered by a cell, the merge is that cell's list, or empty if the cell is not below the number
pub joined_of_cell : (lives : ℕ → List Keyed) → AreOwn lives → ((c : ℕ) → Pairs Rises (lives c)) → (n c : ℕ)
    → (of_cell c (calls_of (joined lives n)) ≡ calls_of (lives c)) ⊎ (of_cell c (calls_of (joined lives n)) ≡ [])
joined_of_cell lives own rise n c = elim (leb_tells (suc c) n) [
  | inl below ↦ inl (joined_restricts lives own rise n c below.1)
  | inr beyond ↦ inr (joined_no_more lives own n c (let b = beyond.1 in omega (arith, b)))
]

-- the calls of cells below `n + 1` are those of cell `n` and those of cells below `n`
below_more : (n : ℕ) (calls : List Call)
    → IsPermutation (of_cell n calls ++ filter (λ call. nat_lt (cell_at call) n) calls) (filter (λ call. nat_lt (cell_at call) (suc n)) calls)
below_more n [] = IsPermutation-refl []
below_more n (call ∷ calls) = elim (eqb_tells (cell_at call) n) [
  | inl here ↦
      let not_below : nat_lt (cell_at call) n ≡ false = (let e = here.1 in grind (arith, nat_tests, e)) in
      let now_below : nat_lt (cell_at call) (suc n) ≡ true = (let e = here.1 in lt-ltb (cell_at call) (suc n) (omega (arith, e))) in
      rw (here.0, not_below, now_below) (IsPermutation-cons call _ _ (below_more n calls))
  | inr other ↦ elim (tells (nat_lt (cell_at call) n)) [
    | inl below ↦
        let now_below : nat_lt (cell_at call) (suc n) ≡ true = grind (arith, nat_tests, below) in
        rw (other.0, below, now_below) (IsPermutation-trans _ (call ∷ (of_cell n calls ++ filter (λ c. nat_lt (cell_at c) n) calls)) _
        (IsPermutation-middle (of_cell n calls) call (filter (λ c. nat_lt (cell_at c) n) calls)) (IsPermutation-cons call _ _ (below_more n calls)))
    | inr above ↦
        let still_above : nat_lt (cell_at call) (suc n) ≡ false = (let differ = other.1 in grind (arith, nat_tests, above, differ)) in
        rw (other.0, above, still_above) (below_more n calls)
  ]
]

none_below : (calls : List Call) → filter (λ call. nat_lt (cell_at call) 0) calls ≡ []
none_below [] = refl
none_below (call ∷ calls) = grind (arith, nat_tests, none_below calls)

-- the merge is a permutation of the calls of cells below the number
pub joined_same : (lives : ℕ → List Keyed) (calls : List Call) → ((c : ℕ) → IsPermutation (calls_of (lives c)) (of_cell c calls)) → (n : ℕ)
    → IsPermutation (calls_of (joined lives n)) (filter (λ call. nat_lt (cell_at call) n) calls)
joined_same lives calls same zero = subst (λ xs. IsPermutation [] xs) (sym (none_below calls)) (IsPermutation-refl [])
joined_same lives calls same (suc n) =
    IsPermutation-trans (calls_of (merge (lives n) (joined lives n))) (calls_of (lives n) ++ calls_of (joined lives n)) _
    (IsPermutation-sym _ _ (merge_same (lives n) (joined lives n)))
    (IsPermutation-trans _ (of_cell n calls ++ filter (λ call. nat_lt (cell_at call) n) calls) _
    (IsPermutation-append (calls_of (lives n)) (of_cell n calls) (calls_of (joined lives n)) _ (same n) (joined_same lives calls same n)) (below_more n calls))
