-- What a heap means once an object is taken out of its table.
use Rattle.std.proofs.Common.{arith, ◌≡◌, ◌≢◌, ℕ, ◌+◌, ◌<◌, List, [], ◌∷◌, map, find, flat_map, refl, Option, Some, None}
use Rattle.std.proofs.lemmas.List.Folds.{find-append}
use Rattle.model_heap.proofs.Meanings.{made_with}
use Rattle.model_memory.specs.Memory.{with_object}
use Rattle.model_heap.specs.Places.{Place, Target, has_serial, meaning, records_from, records_of, records_in}
use Rattle.model_heap.specs.Table.{Group, Slot, Table, emptied_of, group_without, without_object}

-- slots emptied of an object have no record of it
none_emptied : (serial class from : ℕ) (slots : List (Option Slot)) → find (has_serial serial) (records_from class from (map (emptied_of serial) slots)) ≡ None
none_emptied serial class from [] = refl
none_emptied serial class from (None ∷ slots) = none_emptied serial class (from + 1) slots
none_emptied serial class from (Some x ∷ slots) = grind (arith, none_emptied serial class (from + 1) slots)

-- slots emptied of one object have the record of another as before
others_emptied : (serial other class from : ℕ) (slots : List (Option Slot)) → other ≢ serial
    → find (has_serial other) (records_from class from (map (emptied_of serial) slots)) ≡ find (has_serial other) (records_from class from slots)
others_emptied serial other class from [] apart = refl
others_emptied serial other class from (None ∷ slots) apart = others_emptied serial other class (from + 1) slots apart
others_emptied serial other class from (Some x ∷ slots) apart = grind (arith, others_emptied serial other class (from + 1) slots apart)

-- groups without an object have no record of it
none_freed : (serial : ℕ) (gs : List Group) → find (has_serial serial) (flat_map records_in (map (group_without serial) gs)) ≡ None
none_freed serial [] = refl
none_freed serial (g ∷ gs) =
    grind (arith, find-append (has_serial serial) (records_in (group_without serial g)), none_emptied serial g.class 0 g.slots, none_freed serial gs)

-- groups without one object have the record of another as before
others_freed : (serial other : ℕ) (gs : List Group) → other ≢ serial
    → find (has_serial other) (flat_map records_in (map (group_without serial) gs)) ≡ find (has_serial other) (flat_map records_in gs)
others_freed serial other [] apart = refl
others_freed serial other (g ∷ gs) apart = grind (arith, find-append, others_emptied serial other g.class 0 g.slots apart, others_freed serial other gs apart)

-- an object taken out of the table is freed
pub free_means : (next : ℕ) (t : Table) (targets : ℕ → Target) (bytes : Place → ℕ) (roots : List (Option ℕ)) (serial : ℕ) → serial < next
    → meaning next (records_of (without_object t serial)) targets bytes roots
    ≡ with_object (meaning next (records_of t) targets bytes roots) serial None
free_means next t targets bytes roots serial below = grind (arith, made_with, none_freed serial t.groups, others_freed serial)
