-- The bytes of all objects are at most those of the pages that the objects of the classes need.
use Rattle.std.proofs.Common.{◌≡◌, ℕ, suc, ◌+◌, ◌-◌, ◌*◌, ◌/◌, ◌≤◌, cond, nat_eq, filter, is_some, List, [], ◌∷◌, Option, Some, None, map, sum, ap, refl, subst, sym, arith, inl, inr}
use Rattle.std.specs.Prelude.{count_by, slice_get, sum_by}
use Rattle.std.proofs.Math.Nat.{lt-div-mul-add, mul-le-mul_right, mul_assoc}
use Rattle.std.proofs.lemmas.Bool.Decides.{eqb_tells}
use Rattle.std.proofs.lemmas.List.Sums.{sum-map, sum_by-cons}
use Rattle.mesh_class.proofs.ClassLemmas.{IsClass-row}
use Rattle.mesh_spans.specs.Counts.{byte_count}
use Rattle.model_heap.specs.Sound.{AreSoundGroups, IsSound, IsSoundGroup}
use Rattle.model_heap.specs.Table.{Group, Slot, Table, len_in, object_count}
use Rattle.model_words.specs.Classes.{IsClass, Row, pages_of, row_of, slots_of, table}
use Rattle.savings_replay.proofs.ClassLaws.{times_more}
use Rattle.savings_replay.proofs.HeldPages.{by_rows}
use Rattle.savings_replay.specs.ClassCounts.{class_objects}
use Rattle.savings_replay.specs.ClassLaws.{pages_needed}

abbrev of_class : ℕ → List Group → List Group
of_class class groups = filter (λ g. nat_eq g.class class) groups

-- 1 for a slot with an object, 0 for one without
abbrev filled : Option Slot → ℕ
filled slot = cond (is_some slot) 1 0

-- slots whose objects have at most so many bytes each
slots_bytes : (most : ℕ) (slots : List (Option Slot)) → ((k : ℕ) (slot : Slot) → slice_get slots k ≡ Some (Some slot) → slot.len ≤ most)
    → sum_by len_in slots ≤ count_by is_some slots * most
slots_bytes most [] each = omega arith
slots_bytes most (None ∷ slots) each =
    let rest : sum_by len_in slots ≤ count_by is_some slots * most = slots_bytes most slots (λ k slot at. each (suc k) slot at) in
    let bytes : sum_by len_in (None ∷ slots) ≡ 0 + sum_by len_in slots = sum_by-cons len_in None slots in
    let count : count_by is_some (None ∷ slots) ≡ count_by is_some slots = omega (arith, sum_by-cons filled None slots) in
    let all : count_by is_some (None ∷ slots) * most ≡ count_by is_some slots * most = ap (λ (n : ℕ). n * most) count in
    omega (arith, rest, bytes, all)
slots_bytes most (Some slot ∷ slots) each =
    let rest : sum_by len_in slots ≤ count_by is_some slots * most = slots_bytes most slots (λ k other at. each (suc k) other at) in
    let bytes : sum_by len_in (Some slot ∷ slots) ≡ slot.len + sum_by len_in slots = sum_by-cons len_in (Some slot) slots in
    let count : count_by is_some (Some slot ∷ slots) ≡ 1 + count_by is_some slots = sum_by-cons filled (Some slot) slots in
    let all : count_by is_some (Some slot ∷ slots) * most ≡ (1 + count_by is_some slots) * most = ap (λ (n : ℕ). n * most) count in
    let both = times_more 1 (count_by is_some slots) most in
    let here : slot.len ≤ most = each 0 slot refl in
    omega (arith, rest, bytes, all, both, here)

group_bytes : (g : Group) → IsSoundGroup g → byte_count g ≤ object_count g * g.class
group_bytes g sound = slots_bytes g.class g.slots (λ k slot at. (sound.objects k slot at).fits)

-- the objects of a class have at most its slot size each
class_bytes : (class : ℕ) (groups : List Group) → AreSoundGroups groups
    → sum_by byte_count (of_class class groups) ≤ sum_by object_count (of_class class groups) * class
class_bytes class [] sound = omega arith
class_bytes class (g ∷ groups) sound = elim (eqb_tells g.class class) [
  | inl same ↦ rw same.0 (let rest = class_bytes class groups sound.1 in
      let own : byte_count g ≤ object_count g * class = subst (λ (n : ℕ). byte_count g ≤ object_count g * n) same.1 (group_bytes g sound.0) in
      let bytes = sum_by-cons byte_count g (of_class class groups) in let count = sum_by-cons object_count g (of_class class groups) in
      let all : sum_by object_count (g ∷ of_class class groups) * class ≡ (object_count g + sum_by object_count (of_class class groups)) * class
      = ap (λ (n : ℕ). n * class) count in
      let both = times_more (object_count g) (sum_by object_count (of_class class groups)) class in omega (arith, rest, own, bytes, all, both))
  | inr other ↦ rw other.0 (class_bytes class groups sound.1)
]

-- the spans that are needed have a slot for each object
spans_slots : (objects slots : ℕ) → 1 ≤ slots → objects ≤ ((objects + slots - 1) / slots) * slots
spans_slots objects slots some =
    let less = lt-div-mul-add {a = objects + slots - 1} {b = slots} some in omega (arith, some, less)

pages_bytes : (class objects : ℕ) → IsClass class → objects * class ≤ 4096 * pages_needed class objects
pages_bytes class objects is =
    let spans : ℕ = (objects + slots_of class - 1) / slots_of class in
    let some = is.some_slot in
    let places : objects ≤ spans * slots_of class = spans_slots objects (slots_of class) (omega (arith, some)) in
    let bytes : objects * class ≤ spans * slots_of class * class = mul-le-mul_right class places in
    let slots : spans * slots_of class * class ≡ spans * (slots_of class * class) = mul_assoc spans (slots_of class) class in
    let full : spans * (slots_of class * class) ≡ spans * (pages_of class * 4096) = ap (λ (n : ℕ). spans * n) is.full in
    let pages : spans * pages_of class * 4096 ≡ spans * (pages_of class * 4096) = mul_assoc spans (pages_of class) 4096 in
    omega (arith, bytes, slots, full, pages)

-- each row is the row of its size
abbrev HaveRows : List Row → Type 0
HaveRows [] = Unit {0}
HaveRows (r ∷ rows) = (row_of r.size ≡ Some r) × HaveRows rows

rows_bytes : (A N : ℕ → ℕ) (rows : List Row) → HaveRows rows → ((class : ℕ) → IsClass class → A class ≤ 4096 * N class)
    → sum_by (λ r. A r.size) rows ≤ 4096 * sum_by (λ r. N r.size) rows
rows_bytes A N [] have each = omega arith
rows_bytes A N (r ∷ rows) have each =
    let here = each r.size (IsClass-row r.size r.pages r.slots have.0) in let rest = rows_bytes A N rows have.1 each in
    let a = sum_by-cons (λ (x : Row). A x.size) r rows in let n = sum_by-cons (λ (x : Row). N x.size) r rows in
    omega (arith, here, rest, a, n)

table_rows : HaveRows table
table_rows = (refl, (refl, (refl, (refl, (refl, (refl, (refl, (refl, (refl, (refl, tt))))))))))

class_fits : (t : Table) (class : ℕ) → IsSound t → IsClass class
    → sum_by byte_count (of_class class t.groups) ≤ 4096 * pages_needed class (class_objects t class)
class_fits t class sound is =
    let bytes = class_bytes class t.groups sound.groups in let pages = pages_bytes class (class_objects t class) is in omega (arith, bytes, pages)

pub bytes_fit : (t : Table) → IsSound t → sum_by byte_count t.groups ≤ 4096 * sum (map (λ row. pages_needed row.size (class_objects t row.size)) table)
bytes_fit t sound =
    let rows : sum_by (λ (r : Row). sum_by byte_count (of_class r.size t.groups)) table
    ≤ 4096 * sum_by (λ (r : Row). pages_needed r.size (class_objects t r.size)) table =
    rows_bytes (λ c. sum_by byte_count (of_class c t.groups)) (λ c. pages_needed c (class_objects t c)) table table_rows
    (λ class is. class_fits t class sound is) in
    let whole : sum_by (λ (r : Row). sum_by byte_count (of_class r.size t.groups)) table ≡ sum_by byte_count t.groups =
    by_rows byte_count t.groups sound.groups in
    let needed : sum (map (λ (r : Row). pages_needed r.size (class_objects t r.size)) table)
    ≡ sum_by (λ (r : Row). pages_needed r.size (class_objects t r.size)) table =
    sum-map (λ (r : Row). pages_needed r.size (class_objects t r.size)) table in
    subst (λ (n : ℕ). n ≤ 4096 * sum (map (λ (r : Row). pages_needed r.size (class_objects t r.size)) table)) whole
    (subst (λ (n : ℕ). sum_by (λ (r : Row). sum_by byte_count (of_class r.size t.groups)) table ≤ 4096 * n) (sym needed) rows)
