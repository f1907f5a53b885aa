-- After a round, and until the next free of a small object, each group of both heaps has an object.
use Rattle.std.proofs.Common.{◌≡◌, ℕ, zero, suc, ◌+◌, ◌≤◌, Bool, true, false, cond, not, if◌then◌else◌, is_some, List, [], ◌∷◌, ◌++◌, length, map, filter, Option, Some, None, Result, Ok, Err, ap, refl, subst, sym, eq-eqb, arith, inl, inr}
use Rattle.std.specs.Prelude.{count_by, max, slice_get, slice_set, sum_by}
use Rattle.std.proofs.lemmas.Bool.Decides.{eqb_tells, leb_tells}
use Rattle.std.proofs.lemmas.List.{length-replicate}
use Rattle.std.proofs.lemmas.List.Sums.{sum_by-cons}
use Rattle.rand_core.specs.Steps.{first_words}
use Rattle.rand_xoshiro.specs.Xoshiro256.{plus_plus}
use Rattle.model_words.proofs.Tests.{tells}
use Rattle.model_words.specs.Classes.{class_for, slots_of}
use Rattle.model_words.specs.declared.refusals.Refusal.{Refusal}
use Rattle.model_heap.proofs.MayBegin.{meshed}
use Rattle.model_heap.proofs.NewObjects.{by_place}
use Rattle.model_heap.specs.Mesh.{merged_into, mesh_of_class, mesh_whole, united}
use Rattle.model_heap.specs.Sound.{IsSound}
use Rattle.model_heap.specs.Table.{Counted, Group, Placed, Slot, Table, changed_at, first_member, fresh_group, has_number, object_count, picked_slot, place_new, placed_in, with_object_in, with_span}
use Rattle.model_search.specs.Search.{Found, Pairing, View, search, view_of}
use Rattle.savings_replay.proofs.AlikeHeaps.{AreSame, IsCalm, IsSame, same_free, same_start, same_step, within_whole}
use Rattle.savings_replay.proofs.FilledGroups.{has_object, swept_filled}
use Rattle.savings_replay.proofs.ObjectCounts.{class_has_slots, none_filled, picked_free}
use Rattle.savings_replay.specs.ClassCounts.{empty_of}
use Rattle.savings_replay.specs.EmptyPages.{HaveNoneEmpty}
use Rattle.savings_replay.specs.Followed.{Followed, Goes, Large, Live, NoAddresses, NoObject, Outcome, Small, after_free, aliased, freed, is_due, made, object_in, run, run_on, small_live, small_placed, start, step, without_serial}
use Rattle.savings_replay.specs.Meshing.{Heaps, Meshing, after_mesh, after_round, class_meshed, class_sizes, classes_meshed, mesh_within, pair_meshed, pairs_meshed, searched}
use Rattle.savings_replay.specs.Sweeps.{swept}
use Rattle.savings_replay.specs.declared.calls.Call.{Call}
use Rattle.savings_replay.specs.declared.calls.Call.TheVariants.{New, Free, Alias}
use Rattle.savings_replay.specs.declared.settings.Settings.{Settings}

-- each group has an object
abbrev AllHeld : List Group → Type 0
AllHeld [] = Unit {0}
AllHeld (g ∷ groups) = (1 ≤ object_count g) × AllHeld groups

none_empty : (groups : List Group) → AllHeld groups → sum_by empty_of groups ≡ 0
none_empty [] held = refl
none_empty (g ∷ groups) held = elim (eqb_tells (object_count g) 0) [
  | inl none ↦ absurd (let some = held.0 in omega (arith, some, none.1))
  | inr other ↦
      let here : empty_of g ≡ 0 = rw other.0 refl in let rest = none_empty groups held.1 in
      let sums = sum_by-cons empty_of g groups in omega (arith, here, rest, sums)
]

-- lists of groups

held_mapped : (change : Group → Group) (groups : List Group) → ((g : Group) → object_count g ≤ object_count (change g)) → AllHeld groups
    → AllHeld (map change groups)
held_mapped change [] keeps held = tt
held_mapped change (g ∷ groups) keeps held =
    (let more = keeps g in let some = held.0 in omega (arith, more, some), held_mapped change groups keeps held.1)

held_pushed : (change : Group → Group) (groups : List Group) (g : Group) → ((x : Group) → object_count x ≤ object_count (change x))
    → 1 ≤ object_count (change g) → AllHeld groups → AllHeld (map change (groups ++ g ∷ []))
held_pushed change [] g keeps new held = (new, tt)
held_pushed change (x ∷ groups) g keeps new held =
    (let more = keeps x in let some = held.0 in omega (arith, more, some), held_pushed change groups g keeps new held.1)

held_filtered : (test : Group → Bool) (groups : List Group) → AllHeld groups → AllHeld (filter test groups)
held_filtered test [] held = tt
held_filtered test (g ∷ groups) held = elim (tells (test g)) [
  | inl pass ↦ rw pass (held.0, held_filtered test groups held.1)
  | inr fail ↦ rw fail (held_filtered test groups held.1)
]

filled_held : (groups : List Group) → AllHeld (filter has_object groups)
filled_held [] = tt
filled_held (g ∷ groups) = elim (leb_tells 1 (object_count g)) [
  | inl some ↦ rw some.0 (some.1, filled_held groups)
  | inr none ↦ rw none.0 (filled_held groups)
]

changed_keeps : (n : ℕ) (change : Group → Group) → ((g : Group) → object_count g ≤ object_count (change g)) → (g : Group)
    → object_count g ≤ object_count (changed_at n change g)
changed_keeps n change keeps g = elim (tells (has_number n g)) [ inl pass ↦ rw pass (keeps g) | inr fail ↦ rw fail (omega arith) ]

-- slots

-- 1 for a slot with an object, 0 for one without
abbrev filled : Option Slot → ℕ
filled slot = cond (is_some slot) 1 0

filled_few : (x : Option Slot) → filled x ≤ 1
filled_few None = omega arith
filled_few (Some slot) = omega arith

set_keeps : (k : ℕ) (slot : Slot) (slots : List (Option Slot)) → count_by is_some slots ≤ count_by is_some (slice_set slots k (Some slot))
set_keeps k slot [] = omega arith
set_keeps zero slot (x ∷ slots) =
    let few = filled_few x in omega (arith, few, sum_by-cons filled x slots, sum_by-cons filled (Some slot) slots)
set_keeps (suc k) slot (x ∷ slots) =
    let rest = set_keeps k slot slots in omega (arith, rest, sum_by-cons filled x slots, sum_by-cons filled x (slice_set slots k (Some slot)))

set_fills : (k : ℕ) (slot : Slot) (slots : List (Option Slot)) → slice_get slots k ≡ Some None → 1 ≤ count_by is_some (slice_set slots k (Some slot))
set_fills k slot [] free = absurd (cc)
set_fills zero slot (x ∷ slots) free = omega (arith, sum_by-cons filled (Some slot) slots)
set_fills (suc k) slot (x ∷ slots) free =
    let rest = set_fills k slot slots free in omega (arith, rest, sum_by-cons filled x (slice_set slots k (Some slot)))

united_keeps : (xs ys : List (Option Slot)) → count_by is_some xs ≤ count_by is_some (united xs ys)
united_keeps [] ys = omega arith
united_keeps (x ∷ xs) [] = omega arith
united_keeps (None ∷ xs) (y ∷ ys) =
    let rest = united_keeps xs ys in omega (arith, rest, sum_by-cons filled None xs, sum_by-cons filled y (united xs ys))
united_keeps (Some x ∷ xs) (y ∷ ys) =
    let rest = united_keeps xs ys in omega (arith, rest, sum_by-cons filled (Some x) xs, sum_by-cons filled (Some x) (united xs ys))

-- calls on one table

held_in_group : (t : Table) (g : Group) (word serial len : ℕ) → AllHeld t.groups → AllHeld (placed_in t g word serial len).table.groups
held_in_group t g word serial len held =
    let slot : Slot = record { member = first_member g; serial = serial; len = len } in
    let change : Group → Group = with_object_in (picked_slot g word) slot in
    held_mapped (changed_at g.number change) t.groups (changed_keeps g.number change (λ x. set_keeps (picked_slot g word) slot x.slots)) held

held_in_span : (t : Table) (class word serial len : ℕ) → 1 ≤ slots_of class → AllHeld t.groups
    → AllHeld (placed_in (with_span t class) (fresh_group t.next_span class t.next_page) word serial len).table.groups
held_in_span t class word serial len some held =
    let fresh : Group = fresh_group t.next_span class t.next_page in
    let slot : Slot = record { member = first_member fresh; serial = serial; len = len } in
    let change : Group → Group = with_object_in (picked_slot fresh word) slot in
    let slots : length fresh.slots ≡ slots_of class = length-replicate (slots_of class) None in
    let empty : object_count fresh ≡ 0 = none_filled (slots_of class) in
    let free = picked_free fresh word (omega (arith, slots, empty, some)) in
    let new : 1 ≤ object_count (changed_at t.next_span change fresh) =
    rw (eq-eqb t.next_span t.next_span refl) (set_fills (picked_slot fresh word) slot fresh.slots free) in
    held_pushed (changed_at t.next_span change) t.groups fresh (changed_keeps t.next_span change (λ x. set_keeps (picked_slot fresh word) slot x.slots)) new
    held

held_new : (t : Table) (len word serial : ℕ) (placed : Placed) → IsSound t → AllHeld t.groups → place_new t len word serial ≡ Ok placed
    → AllHeld placed.table.groups
held_new t len word serial placed sound held =
    by_place (λ (x : Placed). AllHeld x.table.groups) t len word serial placed sound (λ class g at. held_in_group t g word serial len held)
    (λ class at. held_in_span t class word serial len (class_has_slots class at.row) held)

held_swept : (t : Table) → IsCalm t → AllHeld (swept t).groups
held_swept t calm =
    subst AllHeld (sym (ap (λ (x : Table). x.groups) (swept_filled t calm.sound calm.none))) (filled_held t.groups)

held_whole : (t : Table) (source destination : ℕ) (whole : Counted) → AllHeld t.groups → mesh_whole mesh_of_class t source destination ≡ Ok whole
    → AllHeld whole.table.groups
held_whole t source destination whole held went =
    let made = meshed mesh_of_class t source destination whole went in
    let a : Group = made.pair.source in
    subst (λ (x : Counted). AllHeld x.table.groups) made.is
    (held_filtered (λ g. not (has_number a.number g)) (map (changed_at destination (merged_into a)) t.groups)
    (held_mapped (changed_at destination (merged_into a)) t.groups
    (changed_keeps destination (merged_into a) (λ g. united_keeps g.slots a.slots)) held))

-- meshes and rounds

held_mesh : (m : Meshing) (source destination : ℕ) (r : Result Counted Refusal) → AllHeld m.table.groups
    → ((whole : Counted) → r ≡ Ok whole → mesh_whole mesh_of_class m.table source destination ≡ Ok whole) → AllHeld (after_mesh m source r).table.groups
held_mesh m source destination (Err refusal) held went = held
held_mesh m source destination (Ok whole) held went = held_whole m.table source destination whole held (went whole refl)

held_pair : (m : Meshing) (pair : Pairing) → AllHeld m.table.groups → AllHeld (pair_meshed m pair).table.groups
unfolding pair_meshed
held_pair m pair held = held_mesh m pair.source pair.destination (mesh_within m.members m.table pair) held (within_whole m.members m.table pair)

held_pairs : (m : Meshing) (pairs : List Pairing) → AllHeld m.table.groups → AllHeld (pairs_meshed m pairs).table.groups
held_pairs m [] held = held
held_pairs m (pair ∷ pairs) held = held_pairs (pair_meshed m pair) pairs (held_pair m pair held)

held_class : (probe : ℕ) (m : Meshing) (class : ℕ) → AllHeld m.table.groups → AllHeld (class_meshed probe m class).table.groups
unfolding class_meshed
held_class probe m class held =
    let view : View = view_of m.table class in
    let count : ℕ = length view.candidates in
    let found : Found = search view (first_words plus_plus count m.words) probe in held_pairs (searched m count found) found.pairs held

held_classes : (probe : ℕ) (m : Meshing) (classes : List ℕ) → AllHeld m.table.groups → AllHeld (classes_meshed probe m classes).table.groups
held_classes probe m [] held = held
held_classes probe m (class ∷ classes) held = held_classes probe (class_meshed probe m class) classes (held_class probe m class held)

-- each group of both heaps has an object
record AreHeld (h : Heaps) : Type 0 where
  without : AllHeld h.without.groups
  with : AllHeld h.meshing.table.groups

held_round : (probe : ℕ) (h : Heaps) → AreSame h → AreHeld (after_round probe h)
unfolding after_round
held_round probe h same =
    let m : Meshing = record h.meshing { table = swept h.meshing.table } in
    record { without = held_swept h.without same.without; with = held_classes probe m class_sizes (held_swept h.meshing.table same.with) }

held_after_free : (probe : ℕ) (h : Heaps) (due : Bool) (since : ℕ) → AreSame h → (if due then 0 else since + 1) ≡ 0 → AreHeld (after_free probe h due)
held_after_free probe h true since same none = held_round probe h same
held_after_free probe h false since same none = absurd (omega (arith, none))

-- calls

-- where a call leads to a state in which no object was freed since a round, each group has an object
abbrev IsHeld : Outcome → Type 0
IsHeld (Goes f) = f.counts.since ≡ 0 → AreHeld f.heaps
IsHeld NoObject = Unit {0}
IsHeld NoAddresses = Unit {0}

held_placed : (settings : Settings) (f : Followed) (cell len class word : ℕ) (a b : Result Placed Refusal) → AreSame f.heaps → IsHeld (Goes f)
    → place_new f.heaps.without len word f.counts.small ≡ a → place_new f.heaps.meshing.table len word f.counts.small ≡ b
    → IsHeld (small_placed settings f cell len class a b)
held_placed settings f cell len class word (Ok a) (Ok b) same held went other = λ none. record {
  without = held_new f.heaps.without len word f.counts.small a same.without.sound (held none).without went;
  with = held_new f.heaps.meshing.table len word f.counts.small b same.with.sound (held none).with other;
}
held_placed settings f cell len class word (Ok a) (Err refusal) same held went other = tt
held_placed settings f cell len class word (Err refusal) b same held went other = tt

held_made : (settings : Settings) (f : Followed) (cell len : ℕ) (class : Option ℕ) → AreSame f.heaps → IsHeld (Goes f) → IsHeld (made settings f cell len class)
held_made settings f cell len None same held = held
held_made settings f cell len (Some class) same held = held_placed settings f cell len class _ _ _ same held refl refl

held_freed : (settings : Settings) (f : Followed) (cell : ℕ) (object : Option (ℕ × Live)) → AreSame f.heaps → IsHeld (Goes f)
    → IsHeld (freed settings f cell object)
held_freed settings f cell None same held = tt
held_freed settings f cell (Some (number, Small serial len)) same held =
    let left : Heaps = without_serial f.heaps serial in
    held_after_free settings.probe left (is_due settings.rounds (f.counts.since + 1) (small_live left)) f.counts.since (same_free f.heaps serial same)
held_freed settings f cell (Some (number, Large len)) same held = held

held_aliased : (f : Followed) (to : ℕ) (object : Option (ℕ × Live)) → IsHeld (Goes f) → IsHeld (aliased f to object)
held_aliased f to None held = tt
held_aliased f to (Some (number, live)) held = held

held_step : (settings : Settings) (f : Followed) (call : Call) → AreSame f.heaps → IsHeld (Goes f) → IsHeld (step settings f call)
unfolding step
held_step settings f (New cell len) same held = held_made settings f cell (max len 1) (class_for (max len 1)) same held
held_step settings f (Free cell) same held = held_freed settings f cell (object_in f cell) same held
held_step settings f (Alias to from) same held = held_aliased f to (object_in f from) held

held_run : (settings : Settings) (outcome : Outcome) (calls : List Call) → IsSame outcome → IsHeld outcome → IsHeld (run_on settings outcome calls)
held_run settings outcome [] same held = held
held_run settings (Goes f) (call ∷ calls) same held =
    held_run settings (step settings f call) calls (same_step settings f call same) (held_step settings f call same held)
held_run settings NoObject (call ∷ calls) same held = tt
held_run settings NoAddresses (call ∷ calls) same held = tt

pub rounds_leave_none : (settings : Settings) (calls : List Call) (f : Followed) → run settings (start settings) calls ≡ Goes f → f.counts.since ≡ 0
    → HaveNoneEmpty f.heaps
rounds_leave_none settings calls f is none =
    let held = subst IsHeld is (held_run settings (Goes (start settings)) calls (same_start settings) (λ none. record { without = tt; with = tt })) none in
    record { without = none_empty f.heaps.without.groups held.without; with = none_empty f.heaps.meshing.table.groups held.with }
