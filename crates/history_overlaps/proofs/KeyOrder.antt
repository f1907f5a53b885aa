-- What the order of sorted keys says of their moments, ranks and places.
use Rattle.std.proofs.Common.{◌≡◌, ◌⊎◌, ℕ, suc, ◌<◌, ◌≤◌, false, List, ap, arith, get_or, inl, inr, refl, sym}
use Rattle.std.specs.List.Sorted.{IsSorted}
use Rattle.std.specs.Ordering.{is_lt, nat_cmp, ordering_then}
use Rattle.std.specs.declared.cmp.Ordering.{Ordering}
use Rattle.std.proofs.lemmas.Bool.{true≢false}
use Rattle.std.proofs.lemmas.Bool.Decides.{eqb_tells, leb_tells}
use Rattle.std.proofs.lemmas.List.Sorted.{ranks_by, sorted_far}
use Rattle.model_intervals.proofs.Lists.{Pairs}
use Rattle.model_intervals.proofs.Places.{pairs_from}
use Rattle.history_overlaps.specs.contracts.keys.KeyOrd.TheImpl as key_ord
use Rattle.history_overlaps.specs.contracts.keys.KeyOrd.TheImpl.Laws as key_laws
use Rattle.history_overlaps.specs.contracts.keys.RankOrd.TheImpl as rank_ord
use Rattle.history_overlaps.specs.declared.keys.Key.{Key}
use Rattle.history_overlaps.specs.declared.keys.Rank.{Rank}
use Rattle.history_overlaps.specs.declared.keys.Rank.TheVariants.{Free, Access, New}

-- the rank as a number
abbrev pub rank_number : Rank → ℕ
rank_number Free = 0
rank_number Access = 1
rank_number New = 2

-- the first key is no greater than the second: its moment, then its rank, then its place
pub record IsBefore (a b : Key) : Type 0 where
  pub moments : a.moment ≤ b.moment
  pub ranks : a.moment ≡ b.moment → rank_number a.rank ≤ rank_number b.rank
  pub places : a.moment ≡ b.moment → a.rank ≡ b.rank → a.place ≤ b.place

pub small_rank : (rank : Rank) → rank_number rank ≤ 2
small_rank Free = omega arith
small_rank Access = omega arith
small_rank New = omega arith

-- two numbers, and an order that decides if they are equal
first_number : (x y : ℕ) (rest : Ordering) → is_lt (ordering_then (nat_cmp y x) rest) ≡ false → (x < y) ⊎ ((x ≡ y) × (is_lt rest ≡ false))
first_number x y rest h = elim (leb_tells (suc y) x) [
  | inl less ↦ absurd (true≢false (rw less.0 at h))
  | inr more ↦ elim (eqb_tells y x) [
    | inl same ↦ inr (sym same.1, rw (more.0, same.0) at h)
    | inr other ↦ (let apart = other.1 in let le = more.1 in inl (omega (arith, apart, le)))
  ]
]

-- two ranks
first_rank : (a b : Rank) (rest : Ordering) → is_lt (ordering_then ((rank_ord.ghosts).cmp b a) rest) ≡ false
    → (rank_number a < rank_number b) ⊎ ((a ≡ b) × (is_lt rest ≡ false))
first_rank Free Free rest h = inr (refl, h)
first_rank Free Access rest h = inl (omega arith)
first_rank Free New rest h = inl (omega arith)
first_rank Access Free rest h = absurd (true≢false h)
first_rank Access Access rest h = inr (refl, h)
first_rank Access New rest h = inl (omega arith)
first_rank New Free rest h = absurd (true≢false h)
first_rank New Access rest h = absurd (true≢false h)
first_rank New New rest h = inr (refl, h)

-- the order that is derived for keys
not_less : (a b : Key) → is_lt ((key_ord.ghosts).cmp b a) ≡ false → IsBefore a b
not_less a b h = elim (first_number a.moment b.moment by_rank h) [
  | inl less ↦ record { moments = omega (arith, less); ranks = λ e. absurd (omega (arith, less, e)); places = λ e _. absurd (omega (arith, less, e)) }
  | inr same ↦ elim (first_rank a.rank b.rank by_place same.1) [
    | inl lower ↦ record {
      moments = (let e = same.0 in omega (arith, e));
      ranks = λ _. omega (arith, lower);
      places = λ _ e. (let n = ap rank_number e in absurd (omega (arith, lower, n)));
    }
    | inr equal ↦ record {
      moments = (let e = same.0 in omega (arith, e));
      ranks = λ _. (let n = ap rank_number equal.0 in omega (arith, n));
      places = λ _ _. first_place (first_number a.place b.place (nat_cmp b.number a.number) equal.1);
    }
  ]
]
  where
    by_place : Ordering
    by_place = ordering_then (nat_cmp b.place a.place) (nat_cmp b.number a.number)

    by_rank : Ordering
    by_rank = ordering_then ((rank_ord.ghosts).cmp b.rank a.rank) by_place

    first_place : (a.place < b.place) ⊎ ((a.place ≡ b.place) × (is_lt (nat_cmp b.number a.number) ≡ false)) → a.place ≤ b.place
    first_place (inl less) = omega (arith, less)
    first_place (inr same) = let e = same.0 in omega (arith, e)

-- sorted keys: each is no greater than any later one
pub keys_rise : (keys : List Key) → IsSorted ((key_ord.ghosts).cmp) keys → Pairs IsBefore keys
keys_rise keys up = pairs_from IsBefore keys
    (λ i j d below within. not_less (get_or keys i d) (get_or keys j d) (sorted_far (λ x y. is_lt ((key_ord.ghosts).cmp x y)) (ranks_by (key_laws.total-law) (λ (k : Key). k)) keys up i j d (omega (arith, below)) within))
