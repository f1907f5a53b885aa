-- The accesses to an object in the order of their places, and how a judge follows the first of them.
use Rattle.std.proofs.Common.{◌≡◌, ℕ, zero, suc, ◌+◌, ◌<◌, ◌≤◌, true, false, inl, inr, List, [], ◌∷◌, Option, Some, None, arith, drop, map, option_map, refl, slice_get, sym, take, ap, subst, ◌∙◌}
use Rattle.std.proofs.lemmas.Bool.Decides.{eqb_tells}
use Rattle.std.proofs.lemmas.Option.{slice_get-map}
use Rattle.model_intervals.specs.Intervals.{Call}
use Rattle.history_object.specs.declared.access.Access.{Access}
use Rattle.history_object.specs.Following.{CanBegin, IsOpen}
use Rattle.history_object.specs.TimedCalls.{Timed}
use Rattle.history_object.specs.TimedLaws.{AreLater}
use Rattle.history_overlaps.specs.Accesses.{PlacedCall, is_access_of, placed_from, timed_accesses, timed_of}
use Rattle.history_overlaps.specs.Judges.{AccessJudge}
use Rattle.history_overlaps.proofs.AccessOrders.{placed_at, tells}
use Rattle.history_overlaps.specs.OwnOrders.{BeginInOrder}

-- an item among the first ones
pub among_first : {X : Type 0} (xs : List X) (count k : ℕ) (x : X) → slice_get (take count xs) k ≡ Some x → (k < count) × (slice_get xs k ≡ Some x)
among_first [] zero k x is = absurd (cc is)
among_first [] (suc count) k x is = absurd (cc is)
among_first (y ∷ xs) zero k x is = absurd (cc is)
among_first (y ∷ xs) (suc count) zero x is = (omega arith, is)
among_first (y ∷ xs) (suc count) (suc k) x is = let rest = among_first xs count k x is in (let below = rest.0 in omega (arith, below), rest.1)

-- an item behind the first ones
pub behind_first : {X : Type 0} (xs : List X) (count k : ℕ) → slice_get (drop count xs) k ≡ slice_get xs (count + k)
behind_first {X} [] zero k = ap (λ (n : ℕ). slice_get {X = X} [] n) (let e : k ≡ 0 + k = omega arith in e)
behind_first {X} [] (suc count) k = nothing k ∙ sym (nothing (suc count + k))
  where
    nothing : (n : ℕ) → slice_get {X = X} [] n ≡ None
    nothing zero = refl
    nothing (suc n) = refl
behind_first (x ∷ xs) zero k = ap (λ (n : ℕ). slice_get (x ∷ xs) n) (let e : k ≡ 0 + k = omega arith in e)
behind_first (x ∷ xs) (suc count) k =
    behind_first xs count k ∙ ap (λ (n : ℕ). slice_get (x ∷ xs) n) (let e : suc (count + k) ≡ suc count + k = omega arith in e)

-- what is at a place of a list that is mapped
pub mapped_at : {X Y : Type 0} (f : X → Y) (xs : List X) (k : ℕ) (y : Y) → slice_get (map f xs) k ≡ Some y → (x : X) × (slice_get xs k ≡ Some x) × (f x ≡ y)
mapped_at {X} {Y} f xs k y is = found (slice_get xs k) refl (sym (slice_get-map f xs k) ∙ is)
  where
    found : (o : Option X) → slice_get xs k ≡ o → option_map f (slice_get xs k) ≡ Some y → (x : X) × (slice_get xs k ≡ Some x) × (f x ≡ y)
    found None none at = absurd (let at' = subst (λ (o : Option X). option_map f o ≡ Some y) none at in cc at')
    found (Some x) some at = (x, some, let at' = subst (λ (o : Option X). option_map f o ≡ Some y) some at in cc at')

-- the places are from the first one on
places_from : (place cell : ℕ) (calls : List Call) (k : ℕ) (placed : PlacedCall) → slice_get (placed_from place cell calls) k ≡ Some placed → place ≤ placed.place
places_from place cell calls k placed is = let at = placed_at place cell calls k placed is in let same = at.place_is in omega (arith, same)

-- the places ascend
pub places_ascend : (place cell : ℕ) (calls : List Call) (j k : ℕ) (front back : PlacedCall) → j < k → slice_get (placed_from place cell calls) j ≡ Some front
    → slice_get (placed_from place cell calls) k ≡ Some back → front.place < back.place
places_ascend place cell [] j k front back before at_j at_k = absurd (cc at_j)
places_ascend place cell (call ∷ calls) j k front back before at_j at_k = elim (tells (is_access_of cell call)) [
  | inl access ↦ with_first (λ i l lt at at'. places_ascend (suc place) cell calls i l front back lt at at') j k before
      (subst (λ (l : List PlacedCall). slice_get l j ≡ Some front) (kept access) at_j) (subst (λ (l : List PlacedCall). slice_get l k ≡ Some back) (kept access) at_k)
  | inr other ↦ places_ascend (suc place) cell calls j k front back before (subst (λ (l : List PlacedCall). slice_get l j ≡ Some front) (left other) at_j)
      (subst (λ (l : List PlacedCall). slice_get l k ≡ Some back) (left other) at_k)
]
  where
    kept : is_access_of cell call ≡ true → placed_from place cell (call ∷ calls) ≡ record { place = place; call = call } ∷ placed_from (suc place) cell calls
    kept access = rw access refl

    left : is_access_of cell call ≡ false → placed_from place cell (call ∷ calls) ≡ placed_from (suc place) cell calls
    left other = rw other refl

    with_first : ((i l : ℕ) → i < l → slice_get (placed_from (suc place) cell calls) i ≡ Some front → slice_get (placed_from (suc place) cell calls) l ≡ Some back
        → front.place < back.place)
        → (i l : ℕ) → i < l → slice_get (record { place = place; call = call } ∷ placed_from (suc place) cell calls) i ≡ Some front
        → slice_get (record { place = place; call = call } ∷ placed_from (suc place) cell calls) l ≡ Some back → front.place < back.place
    with_first rest i zero lt at at' = absurd (omega (arith, lt))
    with_first rest zero (suc l) lt at at' =
        let same : record { place = place; call = call } ≡ front = cc at in
        let first = ap (λ (p : PlacedCall). p.place) same in
        let later = places_from (suc place) cell calls l back at' in
        omega (arith, first, later)
    with_first rest (suc i) (suc l) lt at at' = rest i l (omega (arith, lt)) at at'

module _ (cell address : ℕ) (calls : List Call) (ascend : BeginInOrder calls) where
  -- an access among the first ones began no later than the next one, and has a lower place
  pub before_next : (count k : ℕ) (placed : PlacedCall) (timed : Timed Access) → slice_get (placed_from 0 cell calls) count ≡ Some placed
      → slice_get (take count (timed_accesses cell address calls)) k ≡ Some timed
      → (timed.number < placed.place) × (timed.begin ≤ placed.call.begin)
  before_next count k placed timed next is =
      let first = among_first (timed_accesses cell address calls) count k timed is in
      let found = mapped_at (timed_of address) (placed_from 0 cell calls) k timed first.1 in
      let front = placed_at 0 cell calls k found.0 found.1 in
      let back = placed_at 0 cell calls count placed next in
      let lower = places_ascend 0 cell calls k count found.0 placed first.0 found.1 next in
      let place_f = front.place_is in
      let place_b = back.place_is in
      let began = ascend front.at back.at found.0.call placed.call (omega (arith, lower, place_f, place_b)) front.there back.there in (
        subst (λ (t : Timed Access). t.number < placed.place) found.2 lower,
        subst (λ (t : Timed Access). t.begin ≤ placed.call.begin) found.2 began,
      )

  -- the next access may begin
  pub may_begin : (count : ℕ) (placed : PlacedCall) (judge : AccessJudge) → slice_get (placed_from 0 cell calls) count ≡ Some placed → placed.call.begin ≤ placed.call.end
      → ((k : ℕ) (timed : Timed Access) → slice_get (take count (timed_accesses cell address calls)) k ≡ Some timed → (IsOpen judge timed.number → ⊥)
      → timed.end < placed.call.begin)
      → ((k : ℕ) (timed : Timed Access) → slice_get (take count (timed_accesses cell address calls)) k ≡ Some timed → IsOpen judge timed.number
      → placed.call.begin ≤ timed.end)
      → CanBegin (take count (timed_accesses cell address calls)) judge (timed_of address placed)
  may_begin count placed judge next takes_time past open' = record {
    own = λ k other is same. let lower = (before_next count k placed other next is).0 in omega (arith, lower, same);
    takes_time = takes_time;
    in_order = λ k other is. (before_next count k placed other next is).1;
    after_ended = past;
    before_ends = open';
  }

  -- an access behind another one begins no earlier
  pub begins_no_earlier : (count k : ℕ) (front back : PlacedCall) → count ≤ k → slice_get (placed_from 0 cell calls) count ≡ Some front
      → slice_get (placed_from 0 cell calls) k ≡ Some back → front.call.begin ≤ back.call.begin
  begins_no_earlier count k front back le at_f at_b = elim (eqb_tells count k) [
    | inl same ↦ (let both : Some front ≡ Some back = sym at_f ∙ (ap (λ (n : ℕ). slice_get (placed_from 0 cell calls) n) same.1 ∙ at_b) in
        let is : front ≡ back = cc both in
        let e = ap (λ (p : PlacedCall). p.call.begin) is in omega (arith, e))
    | inr apart ↦
        let first = placed_at 0 cell calls count front at_f in
        let second = placed_at 0 cell calls k back at_b in
        let not = apart.1 in
        let lower = places_ascend 0 cell calls count k front back (omega (arith, le, not)) at_f at_b in
        let place_f = first.place_is in
        let place_b = second.place_is in
        ascend first.at second.at front.call back.call (omega (arith, lower, place_f, place_b)) first.there second.there
  ]

  -- the others begin no earlier than the next access
  pub others_later : (count : ℕ) (placed : PlacedCall) (judge : AccessJudge) → slice_get (placed_from 0 cell calls) count ≡ Some placed
      → ((k : ℕ) (timed : Timed Access) → slice_get (take count (timed_accesses cell address calls)) k ≡ Some timed → (IsOpen judge timed.number → ⊥)
      → timed.end < placed.call.begin)
      → AreLater (take count (timed_accesses cell address calls)) judge (drop count (timed_accesses cell address calls))
  others_later count placed judge next past k j call later is closed at =
      let behind = sym (behind_first (timed_accesses cell address calls) count j) ∙ at in
      let found = mapped_at (timed_of address) (placed_from 0 cell calls) (count + j) later behind in
      let ended = past k call is closed in
      let began = begins_no_earlier count (count + j) placed found.0 (omega arith) next found.1 in
      subst (λ (t : Timed Access). call.end < t.begin) found.2 (omega (arith, ended, began))
