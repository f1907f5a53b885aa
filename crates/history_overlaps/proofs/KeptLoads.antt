-- The loads in a list of possible loads.
use Rattle.std.proofs.Common.{◌≡◌, ◌≢◌, ◌⊎◌, inl, inr, ℕ, List, ◌∷◌, take, drop, insert, length, sym, subst}
use Rattle.std.proofs.lemmas.List.{take-append-drop}
use Rattle.arrayvec.specs.ArrayVec.{ArrayVec}
use Rattle.history_object.specs.Carried.{IsKept}
use Rattle.history_parts.proofs.Products.{kept_behind, kept_cases, kept_either, kept_front}
use Rattle.history_overlaps.specs.Possible.{AreOtherLoads, HasAddedLoad}
use Rattle.history_overlaps.specs.declared.possible.Loads.{Loads}

-- what is in a beginning is in the list
pub kept_taken : {X : Type 0} (xs : List X) (n : ℕ) (x : X) → IsKept (take n xs) x → IsKept xs x
kept_taken {X} xs n x is = subst (λ (l : List X). IsKept l x) (take-append-drop n xs) (kept_front (take n xs) (drop n xs) x is)

-- what is in a list into which an element was inserted
pub kept_inserted : {X : Type 0} (xs : List X) (i : ℕ) (y x : X) → IsKept (insert xs i y) x → (x ≡ y) ⊎ IsKept xs x
kept_inserted {X} xs i y x is = elim (kept_either (take i xs) (y ∷ drop i xs) x is) [
  | inl before ↦ inr (kept_taken xs i x before)
  | inr behind ↦ elim (kept_cases (drop i xs) y x behind) [
    | inl same ↦ inl (sym same)
    | inr later ↦ inr (subst (λ (l : List X). IsKept l x) (take-append-drop i xs) (kept_behind (take i xs) (drop i xs) x later))
  ]
]

-- one more load
pub more_loads : (len : ℕ) (answered : List ℕ) (old new : Loads) (load : ArrayVec ℕ) → AreOtherLoads len answered old → length load.items ≡ len → load.items ≢ answered
    → HasAddedLoad old new load → AreOtherLoads len answered new
more_loads len answered old new load are long apart more = record {
  few = more.few are.few;
  each = λ other is. elim (more.each other is) [
    | inl same ↦ subst (λ (l : ArrayVec ℕ). (length l.items ≡ len) × (l.items ≢ answered)) (sym same) (long, apart)
    | inr before ↦ are.each other before
  ];
}
