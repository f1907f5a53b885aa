-- The objects of a group have at most 12,288 bytes.
use Rattle.std.proofs.Common.{◌≡◌, ℕ, suc, ◌+◌, ◌*◌, ◌≤◌, true, false, cond, List, [], ◌∷◌, Option, Some, None, IsSome, arith, rules, refl, subst, inl, inr, option_map, find, nat_eq, length}
use Rattle.std.specs.Prelude.{sum_by, slice_get}
use Rattle.std.specs.Option.{option_map_or}
use Rattle.std.proofs.lemmas.Bool.Decides.{eqb_tells}
use Rattle.std.proofs.lemmas.List.Sums.{sum_by-cons}
use Rattle.model_heap.specs.Sound.{AreSoundGroups, IsSound, IsSoundGroup}
use Rattle.model_heap.specs.Table.{Group, Slot, Table, group_of, has_number, len_in}
use Rattle.model_words.specs.Classes.{Row, row_of, slots_of, table}
use Rattle.mesh_spans.specs.Counts.{byte_count}

-- slots whose objects have at most so many bytes each
slots_few : (most : ℕ) (slots : List (Option Slot)) → ((k : ℕ) (slot : Slot) → slice_get slots k ≡ Some (Some slot) → slot.len ≤ most)
    → sum_by len_in slots ≤ length slots * most
slots_few most [] each = omega arith
slots_few most (None ∷ slots) each =
    let rest : sum_by len_in slots ≤ length slots * most = slots_few most slots (λ k slot at. each (suc k) slot at) in
    let sums : sum_by len_in (None ∷ slots) ≡ 0 + sum_by len_in slots = sum_by-cons len_in None slots in
    let more : length slots * most ≤ suc (length slots) * most = omega arith in
    omega (arith, rest, sums, more)
slots_few most (Some slot ∷ slots) each =
    let rest : sum_by len_in slots ≤ length slots * most = slots_few most slots (λ k other at. each (suc k) other at) in
    let sums : sum_by len_in (Some slot ∷ slots) ≡ slot.len + sum_by len_in slots = sum_by-cons len_in (Some slot) slots in
    let more : most + length slots * most ≤ suc (length slots) * most = omega arith in
    let here : slot.len ≤ most = each 0 slot refl in
    omega (arith, rest, sums, more, here)

-- each row's slots have at most 12,288 bytes
abbrev AreRowsFew : List Row → Type 0
AreRowsFew [] = Unit {0}
AreRowsFew (row ∷ rows) = (row.slots * row.size ≤ 12288) × AreRowsFew rows

row_few : (size : ℕ) (rows : List Row) → AreRowsFew rows → IsSome (find (λ r. nat_eq r.size size) rows)
    → option_map_or (λ r. r.slots) (find (λ r. nat_eq r.size size) rows) 0 * size ≤ 12288
row_few size [] few some = absurd (search rules)
row_few size (row ∷ rows) few some = elim (eqb_tells row.size size) [
  | inl same ↦ rw same.0 (subst (λ n. row.slots * n ≤ 12288) same.1 few.0)
  | inr other ↦ rw other.0 (row_few size rows few.1 (rw other.0 at some))
]

class_few : (class : ℕ) → IsSome (row_of class) → slots_of class * class ≤ 12288
unfolding slots_of
class_few class some = row_few class table
    (omega arith, (omega arith, (omega arith, (omega arith, (omega arith, (omega arith, (omega arith, (omega arith, (omega arith, (omega arith, tt)))))))))) some

group_few : (group : Group) → IsSoundGroup group → byte_count group ≤ 12288
group_few group sound =
    let slots : byte_count group ≤ length group.slots * group.class =
    slots_few group.class group.slots (λ k slot at. (sound.objects k slot at).fits) in
    let slots_are : byte_count group ≤ slots_of group.class * group.class = subst (λ n. byte_count group ≤ n * group.class) sound.places slots in
    let most : slots_of group.class * group.class ≤ 12288 = class_few group.class sound.class in
    omega (arith, slots_are, most)

found_few : (n bytes : ℕ) (groups : List Group) → AreSoundGroups groups → option_map byte_count (find (has_number n) groups) ≡ Some bytes → bytes ≤ 12288
found_few n bytes [] sound found = absurd (cc found)
found_few n bytes (group ∷ groups) sound found = elim (has_number n group) as (λ b. option_map byte_count (cond b (Some group) (find (has_number n) groups)) ≡ Some bytes → bytes ≤ 12288) [
  | true ↦ λ is. let same : byte_count group ≡ bytes = cc in subst (λ m. m ≤ 12288) same (group_few group sound.0)
  | false ↦ λ rest. found_few n bytes groups sound.1 rest
] found

-- a mesh moves at most the bytes of a span
pub moved_few : (t : Table) (n bytes : ℕ) → IsSound t → option_map byte_count (group_of t n) ≡ Some bytes → bytes ≤ 12288
moved_few t n bytes sound found = found_few n bytes t.groups sound.groups found
