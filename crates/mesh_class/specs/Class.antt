-- A class by its place in the class table, and the fields of a `Class`.
use Rattle.std.specs.Prelude.{◌≡◌, ℕ, suc, if◌then◌else◌, nat_eq, List, [], ◌∷◌, Some, Option, map, slice_index}
use Rattle.std.proofs.Common.{ap, ◌∙◌}
use Rattle.std.specs.Option.{option_map_or}
use Rattle.model_words.specs.Classes.{Row, row, row_of, pages_of, slots_of, table}
use Rattle.mesh_class.specs.declared.classes.Class.TheInside.{Inside}

-- the place of the first row of this size, or the number of rows if no row has this size
abbrev pub place_in : ℕ → List Row → ℕ
place_in size [] = 0
place_in size (r ∷ rows) = if nat_eq r.size size then 0 else suc (place_in size rows)

-- the place of the class of this size in the class table
unfoldable pub class_index : ℕ → ℕ
class_index size = place_in size table

-- the size of the class at a place of the class table
abbrev pub size_at : ℕ → ℕ
size_at index = slice_index (map (λ r. r.size) table) index

-- the fields are those of a row of the class table, with the place of this row
abbrev pub IsRow : Inside → Type 0
IsRow c = (row_of c.size ≡ Some (row c.size c.pages c.slots)) × (class_index c.size ≡ c.index)

-- the fields of the class of this size
abbrev pub row_from : ℕ → Inside
row_from size = record { index = class_index size; size = size; pages = pages_of size; slots = slots_of size }

-- if the fields are those of a row, the size determines the other fields
pub row_from-size : (c : Inside) → IsRow c → row_from c.size ≡ c
unfolding pages_of slots_of
row_from-size c h =
    let pages : pages_of c.size ≡ c.pages = ap (λ (o : Option Row). option_map_or (λ r. r.pages) o 0) h.0 in
    let slots : slots_of c.size ≡ c.slots = ap (λ (o : Option Row). option_map_or (λ r. r.slots) o 0) h.0 in
    let with_index : ℕ → Inside = λ n. record { index = n; size = c.size; pages = pages_of c.size; slots = slots_of c.size } in
    let with_pages : ℕ → Inside = λ n. record { index = c.index; size = c.size; pages = n; slots = slots_of c.size } in
    let with_slots : ℕ → Inside = λ n. record { index = c.index; size = c.size; pages = c.pages; slots = n } in
    ap with_index h.1 ∙ ap with_pages pages ∙ ap with_slots slots
