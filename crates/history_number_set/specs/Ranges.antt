-- Sets of numbers as ranges. A function maps the first number of each range to the range's last number.
use Rattle.std.specs.Prelude.{◌≡◌, ◌≢◌, ◌⊎◌, ℕ, ◌+◌, ◌-◌, ◌<◌, ◌≤◌, List, Option, Some, None}
use Rattle.std.specs.Ordering.{nat_cmp}
use Rattle.std.specs.BTreeMap.{is_at}
use Rattle.std.specs.Map.{lookup}

-- the number is in one of the ranges
pub record HasIn (last_of : ℕ → Option ℕ) (n : ℕ) : Type 0 where
  pub first : ℕ
  pub last : ℕ
  pub is_range : last_of first ≡ Some last
  pub from : first ≤ n
  pub to : n ≤ last

-- the last number of the range of a list that begins with `first`, if there is one
abbrev pub last_in : List (ℕ × ℕ) → ℕ → Option ℕ
last_in ranges first = lookup (is_at (nat_cmp first)) ranges

-- a set has the number. The set is the list of its ranges, each with its first and its last number
abbrev pub Has : List (ℕ × ℕ) → ℕ → Type 0
Has set n = HasIn (last_in set) n

-- no range is empty, and between any two ranges a number is missing
pub record AreApart (last_of : ℕ → Option ℕ) : Type 0 where
  pub filled : (first last : ℕ) → last_of first ≡ Some last → first ≤ last
  pub apart : (first last first' last' : ℕ) → last_of first ≡ Some last → last_of first' ≡ Some last' → first < first' → last + 1 < first'

-- of the ranges that begin at or below `n`, the range that begins last, or none if there is no such range
abbrev pub IsNearest : (ℕ → Option ℕ) → ℕ → Option (ℕ × ℕ) → Type 0
IsNearest last_of n None = (q : ℕ) → q ≤ n → last_of q ≡ None
IsNearest last_of n (Some (first, last)) = (first ≤ n) × (last_of first ≡ Some last) × ((q k : ℕ) → q ≤ n → last_of q ≡ Some k → q ≤ first)

-- of the ranges that begin at or above `n`, the range that begins first, or none if there is no such range
abbrev pub IsNext : (ℕ → Option ℕ) → ℕ → Option (ℕ × ℕ) → Type 0
IsNext last_of n None = (q : ℕ) → n ≤ q → last_of q ≡ None
IsNext last_of n (Some (first, last)) = (n ≤ first) × (last_of first ≡ Some last) × ((q k : ℕ) → n ≤ q → last_of q ≡ Some k → first ≤ q)

-- `first` is the first number of the range that ends at `n - 1`; or it is `n`, and each range that begins at or below
-- `n` ends before `n - 1`
abbrev pub IsFirst : (ℕ → Option ℕ) → ℕ → ℕ → Type 0
IsFirst last_of n first = ((last : ℕ) × (last_of first ≡ Some last) × (last + 1 ≡ n))
    ⊎ ((first ≡ n) × ((q k : ℕ) → q ≤ n → last_of q ≡ Some k → k + 1 < n))

-- `last` is the last number of the range that begins at `n + 1`; or it is `n`, and no range begins at `n + 1`
abbrev pub IsLast : (ℕ → Option ℕ) → ℕ → ℕ → Type 0
IsLast last_of n last = ((last_of (n + 1) ≡ Some last) × (n < last)) ⊎ ((last_of (n + 1) ≡ None) × (last ≡ n))

-- the new ranges are the range from `first` to `last`, and the old ones, but none begins at `n + 1`
pub record IsJoined (old new : ℕ → Option ℕ) (n first last : ℕ) : Type 0 where
  pub joined : new first ≡ Some last
  pub behind : new (n + 1) ≡ None
  pub others : (q : ℕ) → q ≢ first → q ≢ n + 1 → new q ≡ old q

-- the new ranges are the range from `n + 1` to `last`, unless this range is empty, and the old ones
pub record IsRest (old new : ℕ → Option ℕ) (n last : ℕ) : Type 0 where
  pub rest : n < last → new (n + 1) ≡ Some last
  pub others : (q : ℕ) → (n < last → q ≢ n + 1) → new q ≡ old q

-- the new ranges are the old ones, but of the range that begins with `first` only the numbers before `n` are left, if
-- there are any
pub record IsCut (old new : ℕ → Option ℕ) (n first : ℕ) : Type 0 where
  pub none : first ≡ n → new first ≡ None
  pub some : first < n → new first ≡ Some (n - 1)
  pub others : (q : ℕ) → q ≢ first → new q ≡ old q

-- the new ranges are the old ones, but the range that has `n` is split: its numbers before `n` and those after `n` are
-- a range each, if there are any
pub record IsParted (old new : ℕ → Option ℕ) (n : ℕ) : Type 0 where
  pub first : ℕ
  pub last : ℕ
  pub is_range : old first ≡ Some last
  pub from : first ≤ n
  pub to : n ≤ last
  pub between : ℕ → Option ℕ
  pub rest : IsRest old between n last
  pub cut : IsCut between new n first
