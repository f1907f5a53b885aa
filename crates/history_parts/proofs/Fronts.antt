-- What holds of each element of a list before a place.
use Rattle.std.proofs.Common.{◌≡◌, inl, inr, ℕ, ◌+◌, ◌<◌, ◌≤◌, List, [], ◌∷◌, Some, length, slice_get, ap, sym, subst, ◌∙◌, arith}
use Rattle.std.proofs.lemmas.Option.{slice_get_within}
use Rattle.history_object.specs.declared.access.Access.{Access}
use Rattle.history_object.specs.Carried.{IsKept}
use Rattle.history_object.proofs.Lists.{below_cases}
use Rattle.history_parts.specs.declared.part.Part.{Part}
use Rattle.history_parts.specs.Parts.{stores_of}
use Rattle.history_parts.proofs.Products.{kept_cases, kept_first, kept_later, kept_none}

-- so it does of one more
pub one_more : {X : Type 0} (P : X → Type 0) (xs : List X) (n : ℕ) (x : X) → slice_get xs n ≡ Some x → P x
    → ((k : ℕ) (y : X) → k < n → slice_get xs k ≡ Some y → P y) → (k : ℕ) (y : X) → k < n + 1 → slice_get xs k ≡ Some y → P y
one_more P xs n x here so before k y lt at = elim (below_cases k n (omega (arith, lt))) [
  | inl lower ↦ before k y lower at
  | inr same ↦
      let both = sym here ∙ (ap (λ (i : ℕ). slice_get xs i) (sym same) ∙ at) in
      let one : x ≡ y = cc (both) in
      subst P one so
]

-- so it does of all
pub of_all : {X : Type 0} (P : X → Type 0) (xs : List X) (n : ℕ) → length xs ≤ n → ((k : ℕ) (y : X) → k < n → slice_get xs k ≡ Some y → P y)
    → (y : X) → IsKept xs y → P y
of_all P xs n past before y (k, at) = let within = slice_get_within xs k y at in before k y (omega (arith, within, past)) at

-- a list of stores is that of a part
pub part_with : (parts : List Part) (stores : List Access) → IsKept (stores_of parts) stores → (part : Part) × IsKept parts part × (part.stores.items ≡ stores)
part_with [] stores is = absurd (kept_none stores is)
part_with (part ∷ parts) stores is = elim (kept_cases (stores_of parts) part.stores.items stores is) [
  | inl same ↦ (part, kept_first parts part, same)
  | inr later ↦ let on = part_with parts stores later in (on.0, kept_later parts part on.0 on.1, on.2)
]

-- a list that is not empty has some element
pub some_of : {X : Type 0} (xs : List X) → 0 < length xs → (x : X) × IsKept xs x
some_of [] none = absurd (omega (arith, none))
some_of (x ∷ xs) some = (x, kept_first xs x)
