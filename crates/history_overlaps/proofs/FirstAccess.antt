-- The first waiting access to an object, by the function from keys to what waits.
use Rattle.std.proofs.Common.{◌≡◌, ◌≢◌, Less, ℕ, ◌+◌, ◌%◌, ◌≤◌, true, false, List, [], ◌∷◌, ap, subst, refl, sym, ◌∙◌, arith, inl, inr, Option, Some, None}
use Rattle.std.specs.List.{AllByRecursion}
use Rattle.std.specs.List.Sorted.{IsStrictlySortedBy}
use Rattle.std.specs.Map.{keys_of, lookup}
use Rattle.std.specs.BTreeMap.{BTreeMap, IsOrdered, get, is_at}
use Rattle.std.specs.Ordering.{nat_cmp}
use Rattle.std.proofs.lemmas.Bool.Decides.{eqb_tells}
use Rattle.std.proofs.lemmas.Cmp.{ranked}
use Rattle.std.proofs.lemmas.Grind.{common_steps}
use Rattle.std.proofs.lemmas.Map.Keys.{sorted_head, sorted_tail}
use Rattle.history_overlaps.specs.Begins.{IsFirstAccess, first_access}
use Rattle.history_overlaps.specs.declared.pending.Pending.{Pending}
use Rattle.history_overlaps.specs.declared.pending.Pending.TheVariants.{Made, Refused, Free, Access}

same_key : (k : ℕ) → is_at (nat_cmp k) k ≡ true
same_key k = grind (arith, common_steps)

other_key : (k q : ℕ) → q ≢ k → is_at (nat_cmp k) q ≡ false
other_key k q h = grind (arith, common_steps)

abbrev at_key : List (ℕ × Pending) → ℕ → Option Pending
at_key entries k = lookup (is_at (nat_cmp k)) entries

-- a key at or below `j`, where all keys are above it, is not there
absent : (j k : ℕ) (entries : List (ℕ × Pending)) → AllByRecursion (λ y. nat_cmp j y ≡ Less) (keys_of entries) → k ≤ j → at_key entries k ≡ None
absent j k [] above below = refl
absent j k (entry ∷ entries) above below =
    rw (other_key k entry.0 (λ same. absurd (let first = ranked j entry.0 Less (sym above.0) in omega (arith, same, first, below)))) (absent j k entries above.1 below)

-- an entry that is no access to the object is passed
passed : (entry : ℕ × Pending) (entries : List (ℕ × Pending)) (cell : ℕ) → IsStrictlySortedBy nat_cmp (keys_of (entry ∷ entries)) → entry.1 ≢ Access cell
    → (r : Option ℕ) → IsFirstAccess (at_key entries) cell r → IsFirstAccess (at_key (entry ∷ entries)) cell r
passed entry entries cell sorted other None none = λ k is. elim (eqb_tells entry.0 k) [
  | inl same ↦ other (let here : at_key (entry ∷ entries) k ≡ Some entry.1 = rw (subst (λ (q : ℕ). is_at (nat_cmp q) entry.0 ≡ true) same.1 (same_key entry.0)) refl in
      let e : Some entry.1 ≡ Some (Access cell) = sym here ∙ is in cc e)
  | inr apart ↦ none k (let there : at_key (entry ∷ entries) k ≡ at_key entries k = rw (other_key k entry.0 apart.1) refl in sym there ∙ is)
]
passed entry entries cell sorted other (Some number) first = (
  first.0,
  rw (other_key first.0 entry.0 (λ same. absurd (
      let none = absent entry.0 first.0 entries (sorted_head nat_cmp entry.0 (keys_of entries) sorted) (omega (arith, same)) in
      let some = first.1 in let e = sym some ∙ none in cc e))) first.1,
  first.2,
)

first_is : (entries : List (ℕ × Pending)) (cell : ℕ) → IsStrictlySortedBy nat_cmp (keys_of entries) → IsFirstAccess (at_key entries) cell (first_access entries cell)
first_is [] cell sorted = λ k is. cc is
first_is ((key, Made x) ∷ entries) cell sorted =
    passed (key, Made x) entries cell sorted (λ e. cc e) (first_access entries cell) (first_is entries cell (sorted_tail nat_cmp key (keys_of entries) sorted))
first_is ((key, Refused len refusal) ∷ entries) cell sorted =
    passed (key, Refused len refusal) entries cell sorted (λ e. cc e) (first_access entries cell) (first_is entries cell (sorted_tail nat_cmp key (keys_of entries) sorted))
first_is ((key, Free) ∷ entries) cell sorted =
    passed (key, Free) entries cell sorted (λ e. cc e) (first_access entries cell) (first_is entries cell (sorted_tail nat_cmp key (keys_of entries) sorted))
first_is ((key, Access c) ∷ entries) cell sorted = elim (eqb_tells c cell) [
  | inl same ↦ let e : first_access ((key, Access c) ∷ entries) cell ≡ Some (key % 4294967296) = rw same.0 refl in
      subst (λ (r : Option ℕ). IsFirstAccess (at_key ((key, Access c) ∷ entries)) cell r) (sym e)
      (key, rw (same_key key) (ap (λ (q : ℕ). Some (Access q)) same.1), refl)
  | inr apart ↦ let e : first_access ((key, Access c) ∷ entries) cell ≡ first_access entries cell = rw apart.0 refl in
      subst (λ (r : Option ℕ). IsFirstAccess (at_key ((key, Access c) ∷ entries)) cell r) (sym e)
      (passed (key, Access c) entries cell sorted (λ e. apart.1 (cc e)) (first_access entries cell) (first_is entries cell (sorted_tail nat_cmp key (keys_of entries) sorted)))
]

-- the first waiting access to the object of a cell, in the map
pub first_access_is : (m : BTreeMap ℕ Pending) (cell : ℕ) (r : Option ℕ) → IsOrdered nat_cmp m → r ≡ first_access m.entries cell → IsFirstAccess (get nat_cmp m) cell r
first_access_is m cell r ordered is = subst (λ (x : Option ℕ). IsFirstAccess (get nat_cmp m) cell x) (sym is) (first_is m.entries cell ordered)
