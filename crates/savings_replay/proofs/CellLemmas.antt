-- What the cells hold after the array has become longer, and after a cell is emptied where the map has no entries.
use Rattle.std.proofs.Common.{◌≡◌, ℕ, zero, suc, Bool, List, [], ◌∷◌, ◌++◌, ◌≤◌, inl, inr, length, refl, ap, arith}
use Rattle.std.proofs.Math.ListN.{set}
use Rattle.std.proofs.lemmas.Bool.Decides.{eqb_tells}
use Rattle.std.proofs.lemmas.Option.{slice_get_past}
use Rattle.std.specs.Prelude.{if◌then◌else◌, nat_eq, slice_get, Option, None}
use Rattle.std.specs.Map.{lookup}
use Rattle.savings_replay.specs.Cells.{held_by}
use Rattle.savings_replay.specs.declared.cells.Held.{Held}

-- an empty entry behind the array's end changes nothing
pub held_by-append : (entries : List (Option Held)) (cell : ℕ) (other : Option Held) → held_by (slice_get (entries ++ None ∷ []) cell) other ≡ held_by (slice_get entries cell) other
held_by-append [] zero other = refl
held_by-append [] (suc cell) other = refl
held_by-append (x ∷ xs) zero other = refl
held_by-append (x ∷ xs) (suc cell) other = held_by-append xs cell other

-- no key has a value
pub lookup_empty : {K V : Type 0} (test : K → Bool) (entries : List (K × V)) → length entries ≡ 0 → lookup test entries ≡ None
lookup_empty test [] empty = refl
lookup_empty test (e ∷ es) empty = absurd (omega arith)

slice_get-set_other : {X : Type 0} (xs : List X) (i k : ℕ) (x : X) → (i ≡ k → ⊥) → slice_get (set xs i x) k ≡ slice_get xs k
slice_get-set_other [] i k x other = refl
slice_get-set_other (y ∷ ys) zero zero x other = absurd (other refl)
slice_get-set_other (y ∷ ys) zero (suc k) x other = refl
slice_get-set_other (y ∷ ys) (suc i) zero x other = refl
slice_get-set_other (y ∷ ys) (suc i) (suc k) x other = slice_get-set_other ys i k x (λ same. other (ap suc same))

held_by-set_same : (entries : List (Option Held)) (cell : ℕ) → held_by (slice_get (set entries cell None) cell) None ≡ None
held_by-set_same [] cell = refl
held_by-set_same (x ∷ xs) zero = refl
held_by-set_same (x ∷ xs) (suc cell) = held_by-set_same xs cell

-- a cell of the array is emptied
pub emptied_near : (entries : List (Option Held)) (cell k : ℕ) → held_by (slice_get (set entries cell None) k) None ≡ (if nat_eq cell k then None else held_by (slice_get entries k) None)
emptied_near entries cell k =
    elim (eqb_tells cell k) [
      | inl same ↦ rw (same.0, ← same.1) (held_by-set_same entries cell)
      | inr other ↦ rw (other.0, slice_get-set_other entries cell k None other.1)
    ]

-- a cell that isn't in the array is empty already
pub emptied_far : (entries : List (Option Held)) (cell k : ℕ) → length entries ≤ cell → held_by (slice_get entries k) None ≡ (if nat_eq cell k then None else held_by (slice_get entries k) None)
emptied_far entries cell k past =
    elim (eqb_tells cell k) [
      | inl same ↦ rw (same.0, ← same.1, slice_get_past entries cell past)
      | inr other ↦ rw other.0
    ]
