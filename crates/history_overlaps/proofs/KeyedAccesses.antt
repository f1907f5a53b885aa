-- The accesses to one object among sorted calls are in the order that their points follow.
use Rattle.std.proofs.Common.{◌≡◌, ℕ, ◌+◌, ◌*◌, ◌<◌, max, Bool, true, ◌&&◌, nat_eq, List, [], ◌∷◌, Option, ap, arith, inl, inr, length, map, refl, subst, sym, ◌∙◌}
use Rattle.std.specs.List.{AllPairs, Contains, cons_option, filter, range_with_len}
use Rattle.std.specs.List.Sorted.{IsPermutation}
use Rattle.std.proofs.lemmas.Bool.{and_from, and_parts, eq-eqb, eqb-true}
use Rattle.std.proofs.lemmas.Bool.Decides.{Decides-eqb}
use Rattle.std.proofs.lemmas.Cmp.{nat_eq_equiv}
use Rattle.std.proofs.lemmas.List.Elements.{All-contains_itself}
use Rattle.std.proofs.lemmas.List.FromFn.{get_or-range_with_len, length-range_with_len}
use Rattle.std.proofs.lemmas.List.Sorted.{Contains-permutation}
use Rattle.std.proofs.lemmas.Map.Keys.{IsDistinct-IsPermutation}
use Rattle.std.proofs.lemmas.Map.Made.{AllPairs-from_IsDistinct, IsDistinct-from_AllPairs}
use Rattle.std.proofs.lemmas.Option.{get_or_from_slice_get, slice_get_within}
use Rattle.model_intervals.specs.Intervals.{Call}
use Rattle.model_intervals.specs.KeyedOrders.{Keyed, keyed_accesses, keyed_from}
use Rattle.model_intervals.specs.Objects.{is_access}
use Rattle.model_intervals.specs.OverlappingCalls.{cell_at}
use Rattle.model_intervals.proofs.Filtered.{every_filter, filter_every, filter_map, has_filter, pairs_filter}
use Rattle.model_intervals.proofs.Lists.{Every, Pairs, every_both, every_map, every_true, every_weaker, has_map, has_unmap, pairs_join, pairs_map, pairs_unmap, pairs_weaker}
use Rattle.model_intervals.proofs.Places.{every_from, pairs_from}
use Rattle.history_overlaps.specs.Orders.{at_places}
use Rattle.history_overlaps.specs.Points.{ArePlacedFrom, ArePoints}
use Rattle.history_overlaps.specs.declared.keys.Key.{Key}
use Rattle.history_overlaps.specs.declared.points.Point.{Point}
use Rattle.history_overlaps.proofs.KeyOrder.{IsBefore, rank_number}
use Rattle.history_overlaps.proofs.KeysOfCalls.{IsKeyAt, access_rank, call_at, keyed_by}
use Rattle.history_overlaps.proofs.OneOrder.{IsIn, is_in, one_before, one_order}
use Rattle.history_overlaps.proofs.PlacedCalls.{IsLater, placed_later, point_at}

-- the numbers below a count differ, in any order
numbers_differ : (count : ℕ) (numbers : List ℕ) → IsPermutation (range_with_len 0 count) numbers → Pairs (λ m n. m ≡ n → ⊥) numbers
numbers_differ count numbers all =
    let range = range_with_len 0 count in
    let long = length-range_with_len 0 count in
    let apart : AllPairs (λ m n. m ≡ n → ⊥) range = λ i j d below within same.
    (let first = get_or-range_with_len 0 count i d (omega (arith, below, within, long)) in
    let second = get_or-range_with_len 0 count j d (omega (arith, within, long)) in
    omega (arith, first, second, same, below)) in
    pairs_from (λ m n. m ≡ n → ⊥) numbers (AllPairs-from_IsDistinct {eq = nat_eq} Decides-eqb numbers
    (IsDistinct-IsPermutation nat_eq nat_eq_equiv.symm range numbers all (IsDistinct-from_AllPairs {eq = nat_eq} Decides-eqb range apart)))

-- whether the call of a key is an access to the object of a cell
abbrev is_of : ℕ → Keyed → Bool
is_of cell p = is_access p.call.entry.command && nat_eq (cell_at p.call) cell

module _ (calls : List Call) (points : List Point) (sorted : List Key) (own : Every (IsKeyAt calls points) sorted)
    (all : IsPermutation (range_with_len 0 (length calls)) (map (λ key. key.number) sorted)) (rise : Pairs IsBefore sorted)
    (orders : ℕ → List ℕ) (are : ArePoints calls points orders) (cell : ℕ) where
  abbrev test : Key → Bool
  test key = is_of cell (keyed_by calls key)

  -- the keys of the accesses
  abbrev mine : List Key
  mine = filter test sorted

  abbrev numbers : List ℕ
  numbers = map (λ key. key.number) mine

  abbrev IsMine : Key → Type 0
  IsMine key = IsKeyAt calls points key × (test key ≡ true)

  all_mine : Every IsMine mine
  all_mine = every_both (IsKeyAt calls points) (λ key. test key ≡ true) IsMine mine (λ key is passes. (is, passes))
      (every_filter (IsKeyAt calls points) test sorted own) (filter_every test sorted)

  parts : (key : Key) → IsMine key → (is_access (call_at calls key.number).entry.command ≡ true) × (nat_eq (cell_at (call_at calls key.number)) cell ≡ true)
  parts key is = and_parts (is_access (call_at calls key.number).entry.command) (nat_eq (cell_at (call_at calls key.number)) cell) is.1

  -- their numbers are those of the order
  in_order : (key : Key) → IsMine key → IsIn (orders cell) key.number
  in_order key is =
      let call = call_at calls key.number in
      let both = parts key is in
      let same = eqb-true (cell_at call) cell both.1 in
      is_in (orders cell) key.number (subst (λ c. Contains (orders c) key.number) same (are.all key.number call is.0.there both.0))

  from_order : (number : ℕ) → Contains (orders cell) number → IsIn numbers number
  from_order number contains =
      let access = are.own cell number contains in
      let within = slice_get_within calls number access.0 access.1 in
      let same = get_or_from_slice_get calls number access.0 (call_at [] 0) access.1 in
      let some : Contains (range_with_len 0 (length calls)) number =
      (number, (let long = length-range_with_len 0 (length calls) in omega (arith, long, within)), (let is = get_or-range_with_len 0 (length calls) number number within in omega (arith, is))) in
      let has = has_unmap (λ (key : Key). key.number) (λ n. n ≡ number) sorted
      (is_in (map (λ key. key.number) sorted) number (Contains-permutation (range_with_len 0 (length calls)) (map (λ key. key.number) sorted) number all some)) in
      has_map (λ (key : Key). key.number) (λ n. n ≡ number) mine (has_filter (λ (key : Key). key.number ≡ number) test sorted
      (λ key is. subst (λ (call : Call). (is_access call.entry.command && nat_eq (cell_at call) cell) ≡ true) (sym (ap (λ n. call_at calls n) is ∙ same))
      (and_from (is_access access.0.entry.command) (nat_eq (cell_at access.0) cell) access.2 (eq-eqb (cell_at access.0) cell access.3))) has)

  -- they have different numbers, and none is greater than a later one
  abbrev IsBelow : Key → Key → Type 0
  IsBelow a b = IsBefore a b × (a.number ≡ b.number → ⊥)

  all_below : Pairs IsBelow mine
  all_below = pairs_filter IsBelow test sorted (pairs_join IsBefore (λ a b. a.number ≡ b.number → ⊥) sorted rise
      (pairs_unmap (λ (key : Key). key.number) (λ m n. m ≡ n → ⊥) sorted (numbers_differ (length calls) (map (λ key. key.number) sorted) all)))

  -- so a later one has a greater place
  place_rises : (a b : Key) → IsBelow a b → IsMine a → IsMine b → (point_at points a.number).place < (point_at points b.number).place
  place_rises a b below a_is b_is =
      elim (one_before (IsLater points) (orders cell) a.number b.number (placed_later calls points 0 0 (orders cell) (are.placed cell)) (in_order a a_is) (in_order b b_is) below.1) [
        | inl later ↦ later.0
        | inr back ↦
            let moments = below.0.moments in
            let a_moment = a_is.0.moment in
            let b_moment = b_is.0.moment in
            let no_later = back.1 in
            let a_rank = a_is.0.ranked ∙ access_rank (call_at calls a.number).entry.command (parts a a_is).0 in
            let b_rank = b_is.0.ranked ∙ access_rank (call_at calls b.number).entry.command (parts b b_is).0 in
            let places = below.0.places (omega (arith, moments, a_moment, b_moment, no_later)) (a_rank ∙ sym b_rank) in
            let a_place = a_is.0.place in
            let b_place = b_is.0.place in
            let less = back.0 in
            absurd (omega (arith, places, a_place, b_place, less))
      ]

  numbers_are : numbers ≡ orders cell
  numbers_are =
      let place = λ (n : ℕ). (point_at points n).place in
      one_order place numbers (orders cell)
      (pairs_map (λ (key : Key). key.number) IsMine IsBelow (λ m n. place m < place n) mine place_rises all_below all_mine)
      (pairs_weaker (λ n. Unit {0}) (IsLater points) (λ m n. place m < place n) (orders cell) (λ m n later _ _. later.0)
      (placed_later calls points 0 0 (orders cell) (are.placed cell)) (every_true (λ n. Unit {0}) (orders cell) (λ n. tt)))
      (every_map (λ (key : Key). key.number) (IsIn (orders cell)) mine (every_weaker IsMine (λ key. IsIn (orders cell) key.number) mine in_order all_mine))
      (every_weaker (Contains (orders cell)) (IsIn numbers) (orders cell) from_order (every_from (Contains (orders cell)) (orders cell) (All-contains_itself (orders cell))))

  -- accesses in the order of their points have the keys of this order
  keyed_placed : (keys : List Key) (low place : ℕ) → Every IsMine keys → ArePlacedFrom calls points low place (map (λ key. key.number) keys)
      → map (keyed_by calls) keys ≡ keyed_from low (at_places calls (map (λ key. key.number) keys))
  keyed_placed [] low place every placed = refl
  keyed_placed (key ∷ keys) low place every placed =
      let call = placed.0 in
      let later = at_places calls (map (λ key. key.number) keys) in
      let same = get_or_from_slice_get calls key.number call (call_at [] 0) placed.2 in
      let point = get_or_from_slice_get points key.number placed.1 (point_at [] 0) placed.3 in
      let moment = every.0.0.moment ∙ ap (λ (p : Point). p.moment) point ∙ placed.4 in
      let rank = ap rank_number (every.0.0.ranked ∙ access_rank (call_at calls key.number).entry.command (parts key every.0).0) in
      let number : 3 * key.moment + rank_number key.rank ≡ 3 * max low call.begin + 1 = omega (arith, moment, rank) in
      let first : keyed_by calls key ≡ record { key = 3 * max low call.begin + 1; call = call } =
      ap (λ n. record { key = n; call = call_at calls key.number }) number ∙ ap (λ c. record { key = 3 * max low call.begin + 1; call = c }) same in
      ap (λ (rest : List Keyed). keyed_by calls key ∷ rest) (keyed_placed keys (max low call.begin) (place + 1) every.1 placed.6)
      ∙ ap (λ (p : Keyed). p ∷ keyed_from (max low call.begin) later) first
      ∙ sym (ap (λ (found : Option Call). keyed_from low (cons_option found later)) placed.2)

  pub accesses_keyed : keyed_accesses cell (map (keyed_by calls) sorted) ≡ keyed_from 0 (at_places calls (orders cell))
  accesses_keyed =
      filter_map (keyed_by calls) (is_of cell) sorted
      ∙ keyed_placed mine 0 0 all_mine (subst (λ ns. ArePlacedFrom calls points 0 0 ns) (sym numbers_are) (are.placed cell))
      ∙ ap (λ ns. keyed_from 0 (at_places calls ns)) numbers_are
