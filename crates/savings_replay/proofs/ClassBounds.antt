-- What the counts by class are of the table, and how large they are.
use Rattle.std.proofs.Common.{◌≡◌, ℕ, zero, suc, ◌+◌, ◌^◌, ◌≤◌, nat_eq, not, filter, List, [], ◌∷◌, Option, Some, None, length, map, ap, refl, sym, ◌∙◌, arith, inl, inr}
use Rattle.std.specs.Prelude.{sum_by}
use Rattle.std.specs.List.{All}
use Rattle.std.proofs.lemmas.Bool.Decides.{eqb_tells}
use Rattle.std.proofs.lemmas.List.Filters.{sum_by-filter_both}
use Rattle.std.proofs.lemmas.List.Sums.{sum_by-cons, sum_by-le-sum_by}
use Rattle.model_heap.specs.Table.{Group, object_count}
use Rattle.model_words.specs.Classes.{Row, table}
use Rattle.mesh_spans.proofs.CountLemmas.{totals_few}
use Rattle.mesh_spans.specs.Counts.{bytes_in, mapped_in, objects_in}
use Rattle.mesh_spans.specs.Groups.{groups_from, groups_of, table_group}
use Rattle.mesh_spans.specs.Index.{GroupEntry, IsIndex, SpanEntry}
use Rattle.savings_replay.proofs.ClassCounts.{rows_same}
use Rattle.savings_replay.proofs.HeldPages.{held_within, pages_split}
use Rattle.savings_replay.proofs.Swept.{spans_within}
use Rattle.savings_replay.specs.ClassCounts.{class_count, class_objects, count_by_class, counted_for, entry_held, entry_objects, held_of, held_pages}
use Rattle.savings_replay.specs.Placement.{IsPlacement, Placement, table_of}

-- a group of the index counts for a class what the table's group does
of_table : (count : GroupEntry → ℕ) (F : Group → ℕ) (class : ℕ) (spans : List SpanEntry) (b : ℕ) (groups : List (Option GroupEntry))
    → ((n : ℕ) (group : GroupEntry) → F (table_group spans n group) ≡ count group)
    → class_count count groups class ≡ sum_by F (filter (λ g. nat_eq g.class class) (groups_from spans b groups))
of_table count F class spans b [] same = refl
of_table count F class spans b (None ∷ groups) same =
    omega (arith, sum_by-cons (counted_for count class) None groups, of_table count F class spans (b + 1) groups same)
of_table count F class spans b (Some group ∷ groups) same =
    let one = sum_by-cons (counted_for count class) (Some group) groups in
    let rest = of_table count F class spans (b + 1) groups same in
    let later : List Group = groups_from spans (b + 1) groups in
    elim (eqb_tells group.class class) [
      | inl own ↦
          let here : counted_for count class (Some group) ≡ count group = rw own.0 refl in
          let kept : filter (λ g. nat_eq g.class class) (table_group spans b group ∷ later)
          ≡ table_group spans b group ∷ filter (λ g. nat_eq g.class class) later = rw own.0 refl in
          let more = sum_by-cons F (table_group spans b group) (filter (λ g. nat_eq g.class class) later) in
          let is = same b group in
          let all : class_count count (Some group ∷ groups) class ≡ sum_by F (table_group spans b group ∷ filter (λ g. nat_eq g.class class) later)
          = omega (arith, one, rest, here, more, is) in all ∙ ap (λ (gs : List Group). sum_by F gs) (sym kept)
      | inr other ↦
          let here : counted_for count class (Some group) ≡ 0 = rw other.0 refl in
          let left : filter (λ g. nat_eq g.class class) (table_group spans b group ∷ later) ≡ filter (λ g. nat_eq g.class class) later = rw other.0 refl in
          let all : class_count count (Some group ∷ groups) class ≡ sum_by F (filter (λ g. nat_eq g.class class) later) = omega (arith, one, rest, here) in
          all ∙ ap (λ (gs : List Group). sum_by F gs) (sym left)
    ]

pub held_of_class : (p : Placement) (class : ℕ) → class_count entry_held p.index.groups class ≡ held_pages (table_of p) class
unfolding groups_of
held_of_class p class = of_table entry_held held_of class p.index.spans 0 p.index.groups (λ n group. refl)

pub objects_of_class : (p : Placement) (class : ℕ) → class_count entry_objects p.index.groups class ≡ class_objects (table_of p) class
unfolding groups_of
objects_of_class p class = of_table entry_objects object_count class p.index.spans 0 p.index.groups (λ n group. refl)

pub held_by_class : (p : Placement) → count_by_class entry_held p.index.groups ≡ map (λ row. held_pages (table_of p) row.size) table
unfolding count_by_class
held_by_class p = rows_same (held_pages (table_of p)) (class_count entry_held p.index.groups) table (held_of_class p)

pub objects_by_class : (p : Placement) → count_by_class entry_objects p.index.groups ≡ map (λ row. class_objects (table_of p) row.size) table
unfolding count_by_class
objects_by_class p = rows_same (class_objects (table_of p)) (class_count entry_objects p.index.groups) table (objects_of_class p)

-- no entry is above a bound that none of the counts is above
pub rows_few : (F : ℕ → ℕ) (most : ℕ) (rows : List Row) → ((c : ℕ) → F c ≤ most) → All (λ n. n ≤ most) (map (λ r. F r.size) rows)
rows_few F most [] few k d below = absurd (omega (arith, below))
rows_few F most (r ∷ rows) few zero d below = few r.size
rows_few F most (r ∷ rows) few (suc k) d below = rows_few F most rows few k d (omega (arith, below))

-- a class has no more pages of groups with an object than there are pages
pub held_pages_few : (p : Placement) (class : ℕ) → IsPlacement p → held_pages (table_of p) class ≤ 65538
held_pages_few p class kept =
    let parts = sum_by-filter_both (λ (g : Group). nat_eq g.class class) (λ g. not (nat_eq g.class class)) (λ g. refl) held_of (table_of p).groups in
    let all = pages_split (table_of p) in
    let held = held_within p kept in omega (arith, parts, all, held)

-- nor more objects than all slots of as many groups as there can be
for_class : (class : ℕ) (o : Option GroupEntry) → counted_for entry_objects class o ≤ objects_in o
for_class class None = omega arith
for_class class (Some group) = grind arith

pub class_objects_few : (p : Placement) (class : ℕ) → IsPlacement p → IsIndex p.index.spans p.index.groups → class_objects (table_of p) class ≤ 2 ^ 24
class_objects_few p class kept sound =
    let spans = spans_within p kept sound in
    let few : length p.index.groups ≤ 65536 = (let most = kept.sound.few_pages in let paired = sound.paired in omega (arith, spans, most, paired)) in
    let groups : List (Option GroupEntry) = p.index.groups in
    let all = (totals_few groups (record { objects = sum_by objects_in groups; bytes = sum_by bytes_in groups; mapped = sum_by mapped_in groups })
    few sound.each
    (record { objects = refl; bytes = refl; mapped = refl })).objects in
    let part = sum_by-le-sum_by (counted_for entry_objects class) objects_in groups (for_class class) in
    let is = objects_of_class p class in
    omega (arith, all, part, is)
