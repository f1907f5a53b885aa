-- The rows of the class table.
use Rattle.std.proofs.Common.{◌≡◌, ℕ, ◌*◌, ◌<◌, is_some, length, map, slice_index, sym, ◌∙◌, inl, inr, Bool, true, false, cond, ◌&&◌, nat_le, nat_eq, List, [], ◌∷◌, find, Option, Some, None, ap, subst, refl, arith, rules}
use Rattle.std.proofs.lemmas.Bool.Decides.{eqb_tells, nat_tests}
use Rattle.std.specs.Option.{option_map_or}
use Rattle.mesh_class.specs.Class.{class_index, place_in, size_at}
use Rattle.model_words.specs.Classes.{Row, row, table, row_of, pages_of, slots_of, IsClass}

-- whether a row has what every class has
abbrev is_sound : Row → Bool
is_sound r =
    nat_le 16 r.size && nat_le r.size 2048 && nat_le 1 r.pages && nat_le r.pages 3 && nat_le 2 r.slots && nat_le r.slots 256
    && nat_eq (r.slots * r.size) (r.pages * 4096)

-- whether each row passes
abbrev all_sound : List Row → Bool
all_sound [] = true
all_sound (r ∷ rs) = is_sound r && all_sound rs

both : (a b : Bool) → (a && b) ≡ true → (a ≡ true) × (b ≡ true)
both true b e = (refl, e)
both false b e = absurd (search rules)

-- a row that a search finds is sound where all are
sound-found : (p : Row → Bool) (rs : List Row) (r : Row) → all_sound rs ≡ true → find p rs ≡ Some r → is_sound r ≡ true
sound-found p [] r h e = cc
sound-found p (x ∷ xs) r h e =
    elim (p x) as (λ b. cond b (Some x) (find p xs) ≡ Some r → is_sound r ≡ true) [
      | true ↦ λ s. let same : x ≡ r = cc in subst (λ (v : Row). is_sound v ≡ true) same (both (is_sound x) (all_sound xs) h).0
      | false ↦ λ s. sound-found p xs r (both (is_sound x) (all_sound xs) h).1 s
    ] e

-- each row is that of a class
pub IsClass-row : (size pages slots : ℕ) → row_of size ≡ Some (row size pages slots) → IsClass size
unfolding pages_of slots_of
IsClass-row size pages slots h =
    let pages_are : pages_of size ≡ pages = ap (λ (o : Option Row). option_map_or (λ r. r.pages) o 0) h in
    let slots_are : slots_of size ≡ slots = ap (λ (o : Option Row). option_map_or (λ r. r.slots) o 0) h in
    let sound : is_sound (row size pages slots) ≡ true = sound-found (λ r. nat_eq r.size size) table (row size pages slots) refl h in
    record {
      least = grind (arith, nat_tests);
      most = grind (arith, nat_tests);
      some_page = grind (arith, nat_tests);
      few_pages = grind (arith, nat_tests);
      some_slot = grind (arith, nat_tests);
      few_slots = grind (arith, nat_tests);
      full = rw (pages_are, slots_are) (grind (arith, nat_tests));
    }

-- the row found is at its place
size_at_place : (size : ℕ) (rows : List Row) (r : Row) → find (λ x. nat_eq x.size size) rows ≡ Some r → slice_index (map (λ x. x.size) rows) (place_in size rows) ≡ size
size_at_place size [] r e = absurd (cc e)
size_at_place size (x ∷ rows) r e = elim (eqb_tells x.size size) [
  | inl same ↦ rw same.0 same.1
  | inr other ↦ rw other.0 (size_at_place size rows r (rw other.0 at e))
]

place_few : (size : ℕ) (rows : List Row) (r : Row) → find (λ x. nat_eq x.size size) rows ≡ Some r → place_in size rows < length rows
place_few size [] r e = absurd (cc e)
place_few size (x ∷ rows) r e = elim (eqb_tells x.size size) [
  | inl same ↦ rw same.0 (omega arith)
  | inr other ↦ rw other.0 (let rest = place_few size rows r (rw other.0 at e) in omega (arith, rest))
]

-- a class has a row
has_row : (size : ℕ) (o : Option Row) → IsClass size → row_of size ≡ o → is_some o ≡ true
unfolding slots_of
has_row size None is e =
    let none : slots_of size ≡ 0 = ap (λ (o : Option Row). option_map_or (λ r. r.slots) o 0) e in
    let some = is.some_slot in
    absurd (omega (arith, none, some))
has_row size (Some r) is e = refl

size_is : (size : ℕ) (o : Option Row) → row_of size ≡ o → is_some o ≡ true → size_at (class_index size) ≡ size
unfolding class_index
size_is size None e some = absurd (cc some)
size_is size (Some r) e some = size_at_place size table r e

-- there are ten places
pub index_few : (size : ℕ) (r : Row) → row_of size ≡ Some r → class_index size < 10
unfolding class_index
index_few size r e = place_few size table r e

-- a class is the only one at its place
pub one_at : (a b : ℕ) → IsClass a → IsClass b → class_index a ≡ class_index b → a ≡ b
one_at a b x y same =
    sym (size_is a (row_of a) refl (has_row a (row_of a) x refl)) ∙ ap size_at same ∙ size_is b (row_of b) refl (has_row b (row_of b) y refl)
