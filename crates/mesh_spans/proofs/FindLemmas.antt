-- The lowest candidate of the index is the first of the table.
use Rattle.std.proofs.Common.{◌≡◌, ℕ, zero, suc, ◌+◌, ◌<◌, ◌≤◌, Bool, true, false, ◌&&◌, nat_le, find, filter, List, [], ◌∷◌, Option, Some, None, length, ap, refl, sym, ◌∙◌, arith, inl, inr}
use Rattle.std.specs.Option.{option_map}
use Rattle.std.proofs.lemmas.Bool.{le-leb}
use Rattle.std.proofs.lemmas.Bool.Decides.{eqb_tells, leb_tells}
use Rattle.mesh_bins.specs.Words.{IsLeast}
use Rattle.mesh_class.specs.Classes.{slots_of}
use Rattle.model_heap.specs.Table.{Group}
use Rattle.std.specs.Prelude.{IfNone, IfSome, IsSomeAnd}
use Rattle.mesh_spans.specs.GroupBins.{candidate_from, candidates_from, is_partial}
use Rattle.mesh_spans.specs.Groups.{groups_from, groups_of, is_closed, table_group}
use Rattle.mesh_spans.specs.Index.{GroupEntry, Index, IsIndex, SpanEntry, group_at}
use Rattle.mesh_spans.proofs.IndexLemmas.{filled_below, number_fits}

-- the first group that a test passes
pub find_first : (test : Group → Bool) (spans : List SpanEntry) (b n m : ℕ) (groups : List (Option GroupEntry)) (x : GroupEntry)
    → ((j k : ℕ) (y : GroupEntry) → j < n → k ≡ b + j → group_at groups j ≡ Some y → test (table_group spans k y) ≡ false)
    → group_at groups n ≡ Some x → m ≡ b + n → test (table_group spans m x) ≡ true → find test (groups_from spans b groups) ≡ Some (table_group spans m x)
find_first test spans b n m [] x before at is passes = absurd (cc at)
find_first test spans b zero m (None ∷ groups) x before at is passes = absurd (cc at)
find_first test spans b zero m (Some y ∷ groups) x before at is passes = grind arith
find_first test spans b (suc n) m (None ∷ groups) x before at is passes =
    find_first test spans (b + 1) n m groups x (λ j k y low e. before (suc j) k y (omega (arith, low)) (omega (arith, e))) at (omega (arith, is)) passes
find_first test spans b (suc n) m (Some z ∷ groups) x before at is passes =
    let t : test (table_group spans b z) ≡ false = before 0 b z (omega arith) (omega arith) refl in
    rw t (find_first test spans (b + 1) n m groups x (λ j k y low e. before (suc j) k y (omega (arith, low)) (omega (arith, e))) at (omega (arith, is)) passes)

-- none where it passes none
pub find_none : (test : Group → Bool) (spans : List SpanEntry) (b : ℕ) (groups : List (Option GroupEntry))
    → ((j k : ℕ) (y : GroupEntry) → k ≡ b + j → group_at groups j ≡ Some y → test (table_group spans k y) ≡ false)
    → find test (groups_from spans b groups) ≡ None
find_none test spans b [] none = refl
find_none test spans b (None ∷ groups) none = find_none test spans (b + 1) groups (λ j k y e. none (suc j) k y (omega (arith, e)))
find_none test spans b (Some z ∷ groups) none =
    rw (none 0 b z (omega arith) refl) (find_none test spans (b + 1) groups (λ j k y e. none (suc j) k y (omega (arith, e))))

-- two tests that agree on the groups let the same through
filter_agree : (test later : Group → Bool) (spans : List SpanEntry) (b : ℕ) (groups : List (Option GroupEntry))
    → ((j k : ℕ) (y : GroupEntry) → k ≡ b + j → group_at groups j ≡ Some y → test (table_group spans k y) ≡ later (table_group spans k y))
    → filter test (groups_from spans b groups) ≡ filter later (groups_from spans b groups)
filter_agree test later spans b [] same = refl
filter_agree test later spans b (None ∷ groups) same = filter_agree test later spans (b + 1) groups (λ j k y e. same (suc j) k y (omega (arith, e)))
filter_agree test later spans b (Some z ∷ groups) same =
    rw (same 0 b z (omega arith) refl, filter_agree test later spans (b + 1) groups (λ j k y e. same (suc j) k y (omega (arith, e)))) refl

-- nothing comes through a test that no group passes
filter_none : (test : Group → Bool) (spans : List SpanEntry) (b : ℕ) (groups : List (Option GroupEntry))
    → ((j k : ℕ) (y : GroupEntry) → k ≡ b + j → group_at groups j ≡ Some y → test (table_group spans k y) ≡ false)
    → filter test (groups_from spans b groups) ≡ []
filter_none test spans b [] none = refl
filter_none test spans b (None ∷ groups) none = filter_none test spans (b + 1) groups (λ j k y e. none (suc j) k y (omega (arith, e)))
filter_none test spans b (Some z ∷ groups) none =
    rw (none 0 b z (omega arith) refl) (filter_none test spans (b + 1) groups (λ j k y e. none (suc j) k y (omega (arith, e))))

-- the first group that comes through a test, and those that come through another one, which agrees above it
filter_first : (test later : Group → Bool) (spans : List SpanEntry) (b n m : ℕ) (groups : List (Option GroupEntry)) (x : GroupEntry)
    → ((j k : ℕ) (y : GroupEntry) → j < n → k ≡ b + j → group_at groups j ≡ Some y → test (table_group spans k y) ≡ false)
    → ((j k : ℕ) (y : GroupEntry) → j ≤ n → k ≡ b + j → group_at groups j ≡ Some y → later (table_group spans k y) ≡ false)
    → ((j k : ℕ) (y : GroupEntry) → n < j → k ≡ b + j → group_at groups j ≡ Some y → test (table_group spans k y) ≡ later (table_group spans k y))
    → group_at groups n ≡ Some x → m ≡ b + n → test (table_group spans m x) ≡ true
    → filter test (groups_from spans b groups) ≡ table_group spans m x ∷ filter later (groups_from spans b groups)
filter_first test later spans b n m [] x before until after at is passes = absurd (cc at)
filter_first test later spans b zero m (None ∷ groups) x before until after at is passes = absurd (cc at)
filter_first test later spans b zero m (Some y ∷ groups) x before until after at is passes =
    let same : y ≡ x = cc at in
    let here : b ≡ m = omega (arith, is) in
    let t : test (table_group spans b y) ≡ true = rw (same, here) passes in
    let rest = filter_agree test later spans (b + 1) groups (λ j k z e. after (suc j) k z (omega arith) (omega (arith, e))) in
    rw (t, until 0 b y (omega arith) (omega arith) refl, rest) (rw (same, here) refl)
filter_first test later spans b (suc n) m (None ∷ groups) x before until after at is passes =
    filter_first test later spans (b + 1) n m groups x (λ j k y low e. before (suc j) k y (omega (arith, low)) (omega (arith, e)))
    (λ j k y low e. until (suc j) k y (omega (arith, low)) (omega (arith, e))) (λ j k y low e. after (suc j) k y (omega (arith, low)) (omega (arith, e)))
    at (omega (arith, is)) passes
filter_first test later spans b (suc n) m (Some z ∷ groups) x before until after at is passes =
    let t : test (table_group spans b z) ≡ false = before 0 b z (omega arith) (omega arith) refl in
    let l : later (table_group spans b z) ≡ false = until 0 b z (omega arith) (omega arith) refl in
    rw (t, l) (filter_first test later spans (b + 1) n m groups x (λ j k y low e. before (suc j) k y (omega (arith, low)) (omega (arith, e)))
    (λ j k y low e. until (suc j) k y (omega (arith, low)) (omega (arith, e))) (λ j k y low e. after (suc j) k y (omega (arith, low)) (omega (arith, e)))
    at (omega (arith, is)) passes)

some_of : (o : Option GroupEntry) (class : ℕ) → is_partial o class ≡ true → (x : GroupEntry) × (o ≡ Some x)
some_of None class is = absurd (cc is)
some_of (Some x) class is = (x, refl)

module _ (index : Index) (class : ℕ) (sound : IsIndex index.spans index.groups) where
  -- a group of the table passes where that of the index does, at or above the number
  tells : (from n k : ℕ) (x : GroupEntry) → k ≡ 0 + n → group_at index.groups n ≡ Some x
      → candidate_from (is_closed index) class from (table_group index.spans k x) ≡ (nat_le from n && is_partial (group_at index.groups n) class)
  tells from n k x is at = let same : k ≡ n = omega (arith, is) in elim (eqb_tells x.class class) [
    | inl one ↦ let many : slots_of class ≡ length x.slots = ap slots_of (sym one.1) ∙ sym (sound.each n x at).slots in rw (same, at, many) refl
    | inr apart ↦ rw (same, at, apart.0) refl
  ]

  -- below the number, and where that of the index is not partly filled, it does not
  fails : (from n k : ℕ) (x : GroupEntry) → k ≡ 0 + n → group_at index.groups n ≡ Some x → (from ≤ n → is_partial (group_at index.groups n) class ≡ false)
      → candidate_from (is_closed index) class from (table_group index.spans k x) ≡ false
  fails from n k x is at none = tells from n k x is at ∙ elim (leb_tells from n) [ inl l ↦ rw l.0 (none l.1) | inr l ↦ rw l.0 refl ]

  passes : (from n : ℕ) (x : GroupEntry) → group_at index.groups n ≡ Some x → from ≤ n → is_partial (group_at index.groups n) class ≡ true
      → candidate_from (is_closed index) class from (table_group index.spans n x) ≡ true
  passes from n x at above is = tells from n n x (omega arith) at ∙ (rw (le-leb from n above) is)

  -- the lowest candidate of the index is the first one of the table
  pub candidate_found : (from : ℕ) (r : Option ℕ) → IsLeast (λ n. is_partial (group_at index.groups n) class) from 65536 r
      → r ≡ option_map (λ (g : Group). g.number) (find (candidate_from (is_closed index) class from) (groups_from index.spans 0 index.groups))
  candidate_found from None least =
      let none = find_none (candidate_from (is_closed index) class from) index.spans 0 index.groups (λ j k y e at. fails from j k y e at
      (λ above. least j above (number_fits index.spans index.groups j sound (filled_below index.groups j y at)))) in rw none refl
  candidate_found from (Some n) least =
      let x = some_of (group_at index.groups n) class least.passes in
      let first = find_first (candidate_from (is_closed index) class from) index.spans 0 n n index.groups x.0
      (λ j k y low e at. fails from j k y e at (λ above. least.first j above low)) x.1 (omega arith) (passes from n x.0 x.1 least.above least.passes) in rw first refl

  -- where the index has none, no candidate is left
  pub none_left : (from : ℕ) (r : Option ℕ) → IsLeast (λ n. is_partial (group_at index.groups n) class) from 65536 r → IfNone r (candidates_from index class from ≡ [])
  unfolding groups_of
  none_left from None least = filter_none (candidate_from (is_closed index) class from) index.spans 0 index.groups (λ j k y e at. fails from j k y e at
      (λ above. least j above (number_fits index.spans index.groups j sound (filled_below index.groups j y at))))
  none_left from (Some n) least = tt

  -- where it has one, that is the first of those that are left
  pub next_left : (from : ℕ) (r : Option ℕ) → IsLeast (λ n. is_partial (group_at index.groups n) class) from 65536 r → IfSome r (λ n. IsSomeAnd (group_at index.groups n)
      (λ group. candidates_from index class from ≡ table_group index.spans n group ∷ candidates_from index class (n + 1)))
  unfolding groups_of
  next_left from None least = tt
  next_left from (Some n) least =
      let x = some_of (group_at index.groups n) class least.passes in
      rw x.1 (filter_first (candidate_from (is_closed index) class from) (candidate_from (is_closed index) class (n + 1)) index.spans 0 n n index.groups x.0
      (λ j k y low e at. fails from j k y e at (λ above. least.first j above low))
      (λ j k y low e at. fails (n + 1) j k y e at (λ above. absurd (omega (arith, low, above))))
      (λ j k y high e at. tells from j k y e at ∙ (let above = least.above in rw (le-leb from j (omega (arith, above, high)), le-leb (n + 1) j (omega (arith, high))) refl)
      ∙ sym (tells (n + 1) j k y e at))
      x.1 (omega arith) (passes from n x.0 x.1 least.above least.passes))
