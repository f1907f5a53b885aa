-- The order of an object's accesses, and the points that follow it.
use Rattle.std.proofs.Common.{◌≡◌, ◌≢◌, ℕ, zero, suc, ◌<◌, inl, inr, true, nat_eq, List, [], ◌∷◌, Option, Some, None, arith, get_or, length, option_map, refl, slice_get, sym, ap, subst, ◌∙◌}
use Rattle.std.specs.List.{All, AllPairs, Contains}
use Rattle.std.specs.List.Sorted.{IsPermutation}
use Rattle.std.proofs.lemmas.Bool.{eq-eqb}
use Rattle.std.proofs.lemmas.Bool.Decides.{Decides-eqb, eqb_tells}
use Rattle.std.proofs.lemmas.List.Sorted.{Contains-permutation}
use Rattle.std.proofs.lemmas.Map.Keys.{IsDistinct-IsPermutation}
use Rattle.std.proofs.lemmas.Map.Made.{AllPairs-from_IsDistinct, IsDistinct-from_AllPairs}
use Rattle.std.proofs.lemmas.Option.{slice_get-get_or}
use Rattle.history_object.specs.Orders.{IsIn}
use Rattle.history_object.specs.declared.faults.JudgeFault.{JudgeFault}
use Rattle.history_object.specs.declared.faults.JudgeFault.TheVariants.{Memory, TooMany, TooManyPending}
use Rattle.model_intervals.specs.Intervals.{Call}
use Rattle.model_intervals.specs.Objects.{Object, object_made}
use Rattle.model_intervals.specs.OverlappingCalls.{IsAt}
use Rattle.history_overlaps.specs.Accesses.{PlacedCall, is_access_of, placed_from}
use Rattle.history_overlaps.specs.Followed.{IsStopped, IsStoppedBy, IsStoppedFor}
use Rattle.history_overlaps.specs.OwnOrders.{IsOwnOrder, made_of, numbers_of}
use Rattle.history_overlaps.specs.Points.{ArePlacedFrom, HasPlaced}
use Rattle.history_overlaps.specs.declared.points.Point.{Point}
use Rattle.history_overlaps.specs.declared.accesses.Made.{Made}
use Rattle.history_overlaps.proofs.AccessOrders.{placed_at}
use Rattle.history_overlaps.proofs.ObjectAccesses.{mapped_at, places_ascend}

-- the object that the code's object stands for
pub record IsMadeFrom (object : Option Object) (made : Made) : Type 0 where
  pub x : Object
  pub is : object ≡ Some x
  pub same : made ≡ made_of x

pub made_from : (object : Option Object) (made : Made) → Some made ≡ option_map made_of object → IsMadeFrom object made
made_from None made is = absurd (cc is)
made_from (Some x) made is = record { x = x; is = refl; same = cc is }

-- an item of a list, by recursion and by its place
pub contains_in : (xs : List ℕ) (i : ℕ) → Contains xs i → IsIn i xs
contains_in [] i (k, lt, is) = omega (arith, lt)
contains_in (x ∷ xs) i (zero, lt, is) = inl is
contains_in (x ∷ xs) i (suc k, lt, is) = inr (contains_in xs i (k, omega (arith, lt), is))

pub in_contains : (xs : List ℕ) (i : ℕ) → IsIn i xs → Contains xs i
in_contains [] i at = absurd at
in_contains (x ∷ xs) i (inl same) = (0, omega arith, same)
in_contains (x ∷ xs) i (inr later) = let rest = in_contains xs i later in (suc rest.0, (let lt = rest.1 in omega (arith, lt)), rest.2)

pub in_permuted : (xs ys : List ℕ) (i : ℕ) → IsPermutation xs ys → IsIn i xs → IsIn i ys
in_permuted xs ys i permuted at = contains_in ys i (Contains-permutation xs ys i permuted (in_contains xs i at))

-- the number of an access is the place of a call that accesses the object
pub record IsNumbered (cell : ℕ) (calls : List Call) (number : ℕ) : Type 0 where
  pub call : Call
  pub there : IsAt calls number call
  pub accesses : is_access_of cell call ≡ true

pub numbered_at : (cell : ℕ) (calls : List Call) (k number : ℕ) → slice_get (numbers_of cell calls) k ≡ Some number → IsNumbered cell calls number
numbered_at cell calls k number is =
    let found = mapped_at (λ (p : PlacedCall). p.place) (placed_from 0 cell calls) k number is in
    let placed = placed_at 0 cell calls k found.0 found.1 in
    let here : placed.at ≡ number = (let e = placed.place_is in let f = found.2 in omega (arith, e, f)) in
    record { call = found.0.call; there = subst (λ (n : ℕ). IsAt calls n found.0.call) here placed.there; accesses = placed.accesses }

pub numbered_in : (cell : ℕ) (calls : List Call) (number : ℕ) → IsIn number (numbers_of cell calls) → IsNumbered cell calls number
numbered_in cell calls number at =
    let where' = in_contains (numbers_of cell calls) number at in
    numbered_at cell calls where'.0 number (slice_get-get_or (numbers_of cell calls) where'.0 number where'.1 ∙ ap (λ (n : ℕ). Some n) where'.2)

-- each number is below the number of the calls
pub numbers_below : (cell : ℕ) (calls : List Call) → All (λ number. number < length calls) (numbers_of cell calls)
numbers_below cell calls k d lt =
    let one = numbered_at cell calls k (get_or (numbers_of cell calls) k d) (slice_get-get_or (numbers_of cell calls) k d lt) in
    within calls (get_or (numbers_of cell calls) k d) one.call one.there
  where
    within : (xs : List Call) (n : ℕ) (x : Call) → slice_get xs n ≡ Some x → n < length xs
    within [] zero x is = absurd (cc is)
    within [] (suc n) x is = absurd (cc is)
    within (y ∷ xs) zero x is = omega arith
    within (y ∷ xs) (suc n) x is = let rest = within xs n x is in omega (arith, rest)

-- no number is there twice
pub numbers_once : (cell : ℕ) (calls : List Call) → AllPairs (λ front back. front ≢ back) (numbers_of cell calls)
numbers_once cell calls i j d before lt same =
    let front = mapped_at (λ (p : PlacedCall). p.place) (placed_from 0 cell calls) i (get_or (numbers_of cell calls) i d)
    (slice_get-get_or (numbers_of cell calls) i d (omega (arith, before, lt))) in
    let back = mapped_at (λ (p : PlacedCall). p.place) (placed_from 0 cell calls) j (get_or (numbers_of cell calls) j d)
    (slice_get-get_or (numbers_of cell calls) j d lt) in
    let lower = places_ascend 0 cell calls i j front.0 back.0 before front.1 back.1 in
    let at_front = front.2 in
    let at_back = back.2 in
    omega (arith, lower, at_front, at_back, same)

flips : (x y : ℕ) → nat_eq x y ≡ nat_eq y x
flips x y = elim (eqb_tells x y) [
  | inl same ↦ same.0 ∙ sym (eq-eqb y x (sym same.1))
  | inr apart ↦ elim (eqb_tells y x) [ inl same ↦ absurd (apart.1 (sym same.1)) | inr other ↦ apart.0 ∙ sym other.0 ]
]

-- nor is any in another order
pub once_permuted : (xs ys : List ℕ) → IsPermutation xs ys → AllPairs (λ front back. front ≢ back) xs → AllPairs (λ front back. front ≢ back) ys
once_permuted xs ys permuted once =
    AllPairs-from_IsDistinct {eq = nat_eq} Decides-eqb ys (IsDistinct-IsPermutation nat_eq flips xs ys permuted (IsDistinct-from_AllPairs {eq = nat_eq} Decides-eqb xs once))

-- the points of the accesses to the object that a call made follow their order
pub placed_object : (calls : List Call) (old new : List Point) (call : Call) (made : Made) (order : List ℕ) → IsMadeFrom (object_made call.entry.command call.entry.reply) made
    → IsOwnOrder calls made order → ArePlacedFrom calls new 0 0 order → ((i : ℕ) → (IsIn i order → ⊥) → slice_get new i ≡ slice_get old i)
    → true ≡ true → HasPlaced calls old new call
placed_object calls old new call made order from own placed others _ = record {
  placed = λ x is. (order, subst (λ (m : Made). IsOwnOrder calls m order) (from.same ∙ ap made_of (let both : Some from.x ≡ Some x = sym from.is ∙ is in let same : from.x ≡ x = cc both in same)) own, placed);
  others = λ i out. others i (λ at. out from.x from.is (subst (λ (m : Made). IsIn i (numbers_of m.cell calls)) from.same
      (in_permuted order (numbers_of made.cell calls) i own.same at)));
}

-- the judge of an object stops
pub stopped_by : (calls : List Call) (call : Call) (x : Object) (most : ℕ) (fault : JudgeFault) → object_made call.entry.command call.entry.reply ≡ Some x
    → IsStoppedFor calls (made_of x) most fault → IsStoppedBy calls call most fault
stopped_by calls call x most Memory is stopped = tt
stopped_by calls call x most TooMany is stopped = (x, is, stopped)
stopped_by calls call x most TooManyPending is stopped = (x, is, stopped)

-- the judge of some object stops
pub stopped_somewhere : (calls : List Call) (i : ℕ) (call : Call) (most : ℕ) (fault : JudgeFault) → IsAt calls i call → IsStoppedBy calls call most fault
    → IsStopped calls most fault
stopped_somewhere calls i call most Memory is stopped = tt
stopped_somewhere calls i call most TooMany is stopped = (i, call, is, stopped)
stopped_somewhere calls i call most TooManyPending is stopped = (i, call, is, stopped)
