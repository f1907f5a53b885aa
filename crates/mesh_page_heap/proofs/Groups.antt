-- Groups of an index as groups of the table, and where each virtual page stands among a group's.
use Rattle.std.proofs.Common.{◌≡◌, ℕ, zero, suc, ◌+◌, ◌*◌, ◌/◌, ◌%◌, ◌<◌, ◌≤◌, Bool, true, false, ◌||◌, find, List, [], ◌∷◌, Option, Some, None, length, slice_index, slice_index_or, ap, refl, sym, ◌∙◌, arith, inl, inr, mod-lt}
use Rattle.std.proofs.lemmas.Bool.{cases_Bool, eq-eqb}
use Rattle.std.specs.List.{flat_map, range_with_len}
use Rattle.std.proofs.Math.ListN.{length-append}
use Rattle.std.proofs.lemmas.List.{get_or-map, get_or_append_left, get_or-append_right, length-map}
use Rattle.std.proofs.lemmas.List.FromFn.{get_or-range_with_len, length-range_with_len}
use Rattle.std.proofs.lemmas.Nat.{div-add-mod'}
use Rattle.mesh_class.specs.Classes.{pages_of}
use Rattle.model_heap.specs.Mesh.{do_overlap, both_occupied, page_count, virtual_pages}
use Rattle.model_heap.specs.Sound.{times_in}
use Rattle.model_heap.specs.Table.{Group, Slot, first_member, has_number}
use Rattle.mesh_spans.specs.Groups.{first_of, groups_from, groups_of, table_group}
use Rattle.mesh_spans.specs.Index.{GroupEntry, Index, IsIndex, SpanEntry, group_at, span_at}
pub use Rattle.mesh_spans.proofs.PairLemmas.{entry_in_table, none_in_table}
use Rattle.mesh_page_heap.specs.Indexes.{layout_of, members_in}
use Rattle.mesh_page_heap.specs.Layout.{page_total, virtual_page}
use Rattle.mesh_page_heap.proofs.Pages.{member_of}

-- a group of the table is the one of the index
pub record IsEntry (index : Index) (n : ℕ) (group : Group) : Type 0 where
  pub entry : GroupEntry
  pub there : group_at index.groups n ≡ Some entry
  pub same : group ≡ table_group index.spans n entry

pub table_entry : (index : Index) (n : ℕ) (group : Group) → find (has_number n) (groups_of index) ≡ Some group → IsEntry index n group
unfolding groups_of
table_entry index n group found = go (group_at index.groups n) refl
  where
    go : (o : Option GroupEntry) → group_at index.groups n ≡ o → IsEntry index n group
    go None at = absurd (let two : ◌≡◌ {A = Option Group} None (Some group) = sym (none_in_table index n at) ∙ found in cc two)
    go (Some entry) at = record {
      entry = entry;
      there = at;
      same = let two : Some group ≡ Some (table_group index.spans n entry) = sym found ∙ entry_in_table index n entry at in cc two;
    }

-- a group that any test finds is one of the list, counted from `b`
found_among : (test : Group → Bool) (spans : List SpanEntry) (b : ℕ) (groups : List (Option GroupEntry)) (group : Group)
    → find test (groups_from spans b groups) ≡ Some group
    → (i : ℕ) × (entry : GroupEntry) × (group_at groups i ≡ Some entry) × (group.number ≡ b + i) × (group ≡ table_group spans group.number entry)
found_among test spans b [] group found = absurd (cc found)
found_among test spans b (None ∷ groups) group found =
    let rest = found_among test spans (b + 1) groups group found in (suc rest.0, rest.1, rest.2, omega (arith, rest.3), rest.4)
found_among test spans b (Some one ∷ groups) group found = elim (cases_Bool (test (table_group spans b one))) [
  | inl pass ↦ let here : Some (table_group spans b one) ≡ Some group = rw pass at found in let is : table_group spans b one ≡ group = cc here in
      rw (← is) (0, one, refl, omega arith, refl)
  | inr fail ↦ let rest = found_among test spans (b + 1) groups group (rw fail at found) in (suc rest.0, rest.1, rest.2, omega (arith, rest.3), rest.4)
]

-- a group that any test finds in the table is one of the index
pub found_entry : (test : Group → Bool) (index : Index) (group : Group) → find test (groups_of index) ≡ Some group → IsEntry index group.number group
unfolding groups_of
found_entry test index group found =
    let at = found_among test index.spans 0 index.groups group found in
    record { entry = at.1; there = ap (group_at index.groups) (omega (arith, at.3)) ∙ at.2; same = at.4 }

-- the first member of a group that any test finds is that of the index
pub first_is : (test : Group → Bool) (index : Index) (group : Group) → IsIndex index.spans index.groups → find test (groups_of index) ≡ Some group
    → first_member group ≡ (layout_of index).first group.number 0
first_is test index group sound found =
    let e = found_entry test index group found in
    let some = (sound.each group.number e.entry e.there).some_member in
    ap (λ (g : Group). slice_index g.members 0) e.same ∙ get_or-map (first_of index.spans) e.entry.members 0 0 0 some
    ∙ ap (λ (o : Option GroupEntry). (span_at index.spans (slice_index (members_in o) 0)).first) (sym e.there)

-- what stands in a list is counted
pub once_in : (xs : List ℕ) (i v : ℕ) → i < length xs → slice_index xs i ≡ v → 1 ≤ times_in v xs
once_in [] i v below at = absurd (omega (arith, below))
once_in (x ∷ xs) zero v below at = rw (eq-eqb x v at) (omega arith)
once_in (x ∷ xs) (suc i) v below at = let rest = once_in xs i v (omega (arith, below)) at in omega (arith, rest)

-- what a list begins with and has once more is counted twice
first_more : (x : ℕ) (xs : List ℕ) (i v : ℕ) → times_in v (x ∷ xs) ≤ 1 → i < length xs → x ≡ v → slice_index xs i ≡ v → ⊥
first_more x xs i v few below first at =
    let two : 1 + times_in v xs ≤ 1 = rw (eq-eqb x v first) at few in omega (arith, two, once_in xs i v below at)

-- what is counted once stands at one place
pub one_place : (xs : List ℕ) (i i' v : ℕ) → times_in v xs ≤ 1 → i < length xs → i' < length xs → slice_index xs i ≡ v → slice_index xs i' ≡ v → i ≡ i'
one_place [] i i' v few below below' at at' = absurd (omega (arith, below))
one_place (x ∷ xs) zero zero v few below below' at at' = refl
one_place (x ∷ xs) zero (suc i') v few below below' at at' = absurd (first_more x xs i' v few (omega (arith, below')) at at')
one_place (x ∷ xs) (suc i) zero v few below below' at at' = absurd (first_more x xs i v few (omega (arith, below)) at' at)
one_place (x ∷ xs) (suc i) (suc i') v few below below' at at' =
    ap suc (one_place xs i i' v (omega (arith, few)) (omega (arith, below)) (omega (arith, below')) at at')

-- the pages of members of so many pages each
abbrev pub member_pages : ℕ → List ℕ → List ℕ
member_pages p members = flat_map (λ v. range_with_len v p) members

pub page_at : (p : ℕ) (members : List ℕ) (place j : ℕ) → place < length members → j < p
    → slice_index (member_pages p members) (place * p + j) ≡ slice_index members place + j
page_at p [] place j below within = absurd (omega (arith, below))
page_at p (x ∷ members) zero j below within = grind (arith, length-range_with_len, get_or_append_left, get_or-range_with_len)
page_at p (x ∷ members) (suc place) j below within = grind (arith, length-range_with_len, get_or-append_right, page_at p members place j (omega (arith, below)) within)

pub pages_long : (p : ℕ) (members : List ℕ) → length (member_pages p members) ≡ length members * p
pages_long p [] = omega arith
pages_long p (x ∷ members) =
    omega (arith, pages_long p members, length-range_with_len x p, length-append (range_with_len x p) (member_pages p members))

-- the virtual pages of a group of the table are those of the layout
pub pages_counted : (index : Index) (n : ℕ) (a : GroupEntry) → group_at index.groups n ≡ Some a → page_count (table_group index.spans n a) ≡ page_total (layout_of index) n
pages_counted index n a there = rw there (ap (λ (k : ℕ). k * pages_of a.class) (length-map a.members (first_of index.spans)))

-- the virtual page of a number among a group's is the layout's
pub page_is : (index : Index) (n i : ℕ) (a : GroupEntry) → group_at index.groups n ≡ Some a → i < page_total (layout_of index) n
    → slice_index (virtual_pages (table_group index.spans n a)) i ≡ virtual_page (layout_of index) n i
page_is index n i a there below =
    let p : ℕ = pages_of a.class in
    let within : i < length a.members * p = rw there at below in
    let place = member_of _ _ _ within in
    rw there (ap (slice_index (virtual_pages (table_group index.spans n a))) (sym (div-add-mod' i p))
    ∙ page_at _ _ _ _ (omega (arith, place, length-map a.members (first_of index.spans))) (mod-lt i (positive (length a.members) p i within))
    ∙ ap (λ (x : ℕ). x + i % p) (get_or-map (first_of index.spans) a.members (i / p) 0 0 place))
  where
    positive : (k p i : ℕ) → i < k * p → 0 < p
    positive k zero i h = absurd (omega (arith, h))
    positive k (suc p) i h = omega arith

-- no slot is filled in both of two lists that do not overlap
pub no_overlap : (xs ys : List (Option Slot)) (k : ℕ) (a b : Slot) → do_overlap xs ys ≡ false → slice_index_or xs k None ≡ Some a
    → slice_index_or ys k None ≡ Some b → ⊥
no_overlap [] ys k a b apart at at' = (let two : ◌≡◌ {A = Option Slot} None (Some a) = at in absurd (cc two))
no_overlap (x ∷ xs) [] k a b apart at at' = (let two : ◌≡◌ {A = Option Slot} None (Some b) = at' in absurd (cc two))
no_overlap (x ∷ xs) (y ∷ ys) zero a b apart at at' = let two : true ≡ false = rw (at, at') at apart in absurd (cc two)
no_overlap (x ∷ xs) (y ∷ ys) (suc k) a b apart at at' = no_overlap xs ys k a b (later (both_occupied x y) (do_overlap xs ys) apart) at at'
  where
    later : (p q : Bool) → (p || q) ≡ false → q ≡ false
    later true q h = (let two : true ≡ false = h in absurd (cc two))
    later false q h = h
