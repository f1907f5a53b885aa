-- The table's transitions keep a sound table sound.
use Rattle.std.proofs.Common.{◌≡◌, ◌≢◌, ℕ, zero, suc, ◌+◌, ◌≤◌, Bool, true, false, not, min, nat_eq, nat_lt, List, [], ◌∷◌, ◌++◌, length, map, filter, find, flat_map, slice_get, IsSome, ap, subst, refl, sym, ◌∙◌, arith, ◌⊎◌, inl, inr, Option, Some, None, Ok, length-append, zero-add}
use Rattle.std.specs.List.{range_with_len}
use Rattle.std.specs.Option.{option_map_or}
use Rattle.std.proofs.lemmas.Bool.Decides.{nat_tests, eqb_tells}
use Rattle.std.proofs.lemmas.List.{length-map}
use Rattle.model_words.proofs.Chains.{or_refuse_went, refuse_if_went}
use Rattle.model_heap.proofs.MayBegin.{meshed}
use Rattle.model_heap.proofs.GroupLists.{times_in-append, pages_in, find_number, find_sound, find_again, pages_changed, pages_without, groups_changed, groups_mapped, groups_filtered, pages_mapped, ascend_mapped, ascend_filtered, changed_number, find_changed_other, find_without_other}
use Rattle.model_heap.proofs.MeshLists.{meshes_kept, meshes_outside, meshes_elsewhere, mesh_found, meshes_filtered, meshes_of-filtered, meshes_of-progress, meshes_progress, without_fewer, meshes_more, meshes_of-more, meshes_emptied, mesh_kept}
use Rattle.model_words.specs.Classes.{Row, table, row_of, pages_of, slots_of}
use Rattle.model_heap.specs.Mesh.{Stepped, begin, cancel, cancelled, cancelled_at, mesh_whole, merged, merged_into, page_count, step, stepped, table_after, table_unwound, united, virtual_pages, with_progress, without_mesh, free_after, kind_after}
use Rattle.model_heap.specs.Sound.{times_in, AreSoundGroups, AscendBetween, AreSoundMeshes, IsSound, IsSoundGroup, IsSoundMesh, IsWithinSteps, meshes_of}
use Rattle.model_heap.specs.Table.{Slot, Group, Progress, Made, Unwinding, Mesh, Table, Counted, empty_table, group_of, has_number, changed_at, is_meshing, object_count, emptied_of, group_without, without_object, sweep}
use Rattle.model_heap.specs.TableLaws.{IsBusyTest}
use Rattle.model_words.specs.declared.refusals.Refusal.TheVariants.{NoGroup, Busy, NotEmpty, NoMesh}

-- the table with no span is sound
pub empty_sound : (pages : ℕ) → IsSound (empty_table pages)
empty_sound pages = grind (arith, nat_tests)

-- a table with no page, number or mesh more is sound where its groups and meshes are
pub table_sound : (t u : Table) → IsSound t → u.next_page ≡ t.next_page → ((v : ℕ) → pages_in v u.groups ≤ pages_in v t.groups) → AreSoundGroups u.groups
    → AscendBetween 0 u.groups u.next_span → AreSoundMeshes u u.meshes → ((class : ℕ) → meshes_of class u.meshes ≤ meshes_of class t.meshes) → IsSound u
table_sound t u sound page fewer groups numbers meshes of_class = grind (arith, nat_tests)

-- a slot that is filled once emptied of an object was filled so before
pub emptied_kept : (serial : ℕ) (slots : List (Option Slot)) (k : ℕ) (slot : Slot) → slice_get (map (emptied_of serial) slots) k ≡ Some (Some slot)
    → slice_get slots k ≡ Some (Some slot)
emptied_kept serial [] k slot h = h
emptied_kept serial (None ∷ slots) zero slot h = h
emptied_kept serial (Some x ∷ slots) zero slot h = grind arith
emptied_kept serial (x ∷ slots) (suc k) slot h = emptied_kept serial slots k slot h

-- a group without an object is sound
group_emptied : (serial : ℕ) (g : Group) → IsSoundGroup g → IsSoundGroup (group_without serial g)
group_emptied serial g sound = record {
  class = sound.class;
  some_member = sound.some_member;
  few_members = sound.few_members;
  places = length-map g.slots (emptied_of serial) ∙ sound.places;
  objects = λ k slot h. let old = sound.objects k slot (emptied_kept serial g.slots k slot h) in
      record { in_member = old.in_member; some = old.some; fits = old.fits };
}

-- an object taken out keeps the table sound
pub free_sound : (t : Table) (serial : ℕ) → IsSound t → IsSound (without_object t serial)
free_sound t serial sound =
    grind (arith, pages_mapped, groups_mapped (group_without serial) t.groups (group_emptied serial) sound.groups, ascend_mapped, meshes_emptied)

-- a group that is in no mesh taken out keeps the table sound
swept_sound : (t : Table) (n free : ℕ) (g : Group) → IsSound t → group_of t n ≡ Some g → is_meshing t n ≡ false
    → IsSound (record t { free_pages = free; groups = filter (λ x. not (has_number n x)) t.groups })
swept_sound t n free g sound found outside =
    let u : Table = record t { free_pages = free; groups = filter (λ x. not (has_number n x)) t.groups } in
    table_sound t u sound refl (λ v. let fewer = pages_without v n 0 t.next_span t.groups g sound.numbers found in omega (arith, fewer))
    (groups_filtered (λ x. not (has_number n x)) t.groups sound.groups)
    (ascend_filtered 0 t.next_span (λ x. not (has_number n x)) t.groups sound.numbers)
    (meshes_outside t u n t.meshes (λ m x apart is. find_without_other n m t.groups apart ∙ is) outside sound.meshes) (λ class. omega arith)

-- what a sweep that is not refused went through
pub record WasSwept (t : Table) (n : ℕ) (x : Counted) : Type 0 where
  pub group : Group
  pub found : group_of t n ≡ Some group
  pub idle : is_meshing t n ≡ false
  pub empty : nat_lt 0 (object_count group) ≡ false
  pub is : record {
    count = pages_of group.class;
    table = record t { free_pages = t.free_pages + pages_of group.class; groups = filter (λ g. not (has_number n g)) t.groups };
  } ≡ x

-- a sweep that is not refused
pub sweep_went : (t : Table) (n : ℕ) (x : Counted) → sweep t n ≡ Ok x → WasSwept t n x
sweep_went t n x h =
    let group = or_refuse_went NoGroup (group_of t n) _ x h in
    let idle = refuse_if_went Busy (is_meshing t n) _ x group.then in
    let empty = refuse_if_went NotEmpty (nat_lt 0 (object_count group.value)) _ x idle.1 in
    let done = empty.1 in
    record { group = group.value; found = group.is; idle = idle.0; empty = empty.0; is = cc done }

-- an empty group taken out keeps the table sound
pub sweep_sound : (t : Table) (n : ℕ) (swept : Counted) → IsSound t → sweep t n ≡ Ok swept → IsSound swept.table
sweep_sound t n swept sound h =
    let went = sweep_went t n swept h in
    subst (λ (x : Counted). IsSound x.table) went.is (swept_sound t n (t.free_pages + pages_of went.group.class) went.group sound went.found went.idle)

-- each row has a page
abbrev ArePaged : List Row → Type 0
ArePaged [] = Unit {0}
ArePaged (r ∷ rows) = (1 ≤ r.pages) × ArePaged rows

-- a row found among those has a page
row_paged : (test : Row → Bool) (rows : List Row) → ArePaged rows → IsSome (find test rows) → 1 ≤ option_map_or (λ r. r.pages) (find test rows) 0
row_paged test [] paged h = absurd (cc)
row_paged test (r ∷ rows) paged h = grind (arith, row_paged test rows paged.1)

-- a class of the table has a page
pub class_paged : (class : ℕ) → IsSome (row_of class) → 1 ≤ pages_of class
unfolding pages_of
class_paged class h = row_paged (λ r. nat_eq r.size class) table
    (omega arith, (omega arith, (omega arith, (omega arith, (omega arith, (omega arith, (omega arith, (omega arith, (omega arith, (omega arith, tt)))))))))) h

-- a sound mesh of a class that no mesh is of keeps the table sound
begun_sound : (t : Table) (m : Mesh) → IsSound t → IsSoundMesh t m → meshes_of m.class t.meshes ≡ 0
    → IsSound (record t { meshes = t.meshes ++ m ∷ [] })
begun_sound t m sound new none =
    grind (arith, meshes_more (record t { meshes = t.meshes ++ m ∷ [] }) t.meshes m, mesh_kept t, meshes_kept t, meshes_of-more)

-- a mesh begun keeps the table sound
pub begin_sound : (busy : Table → ℕ → Bool) (t : Table) (source destination : ℕ) (begun : Counted) → IsBusyTest busy t → IsSound t
    → begin busy t source destination ≡ Ok begun → IsSound begun.table
begin_sound busy t source destination begun test sound h = grind (arith, nat_tests, class_paged, find_sound (has_number source) t.groups, begun_sound t)

-- a mesh ended keeps the table sound
ended_sound : (t : Table) (this : Mesh) → IsSound t → IsSound (record t { meshes = without_mesh t.meshes this })
ended_sound t this sound = grind (arith, meshes_filtered t, meshes_of-filtered)

-- the group of a number is one
pub one_group : (t : Table) (n : ℕ) (a b : Group) → group_of t n ≡ Some a → group_of t n ≡ Some b → a ≡ b
one_group t n a b is is' = let same : Some a ≡ Some b = sym is ∙ is' in cc same

-- a mesh come to a progress within its steps keeps the table sound
come_sound : (t : Table) (free : ℕ) (this : Mesh) (a : Group) (progress : Progress) → IsSound t → group_of t this.source ≡ Some a → IsWithinSteps a progress
    → IsSound (record t { free_pages = free; meshes = with_progress t.meshes this progress })
come_sound t free this a progress sound is within = grind (arith, meshes_progress t this progress t.meshes, meshes_of-progress)

-- a mesh cancelled with so many unprotects left keeps the table sound
cancelled_at_sound : (t : Table) (this : Mesh) (a : Group) (q : ℕ) → IsSound t → group_of t this.source ≡ Some a → q ≤ page_count a
    → IsSound (cancelled_at t this a q).table
cancelled_at_sound t this a q sound is within = grind (arith, ended_sound t this sound, come_sound t t.free_pages this a (Unwinding q 0) sound is)

-- a cancel of a mesh at a progress keeps the table sound
cancelled_sound : (t : Table) (this : Mesh) (a : Group) (progress : Progress) (x : Counted) → IsSound t → group_of t this.source ≡ Some a
    → cancelled t this a progress ≡ Ok x → IsSound x.table
cancelled_sound t this a (Made d) x sound is h = grind (arith, cancelled_at_sound t this a (min d (page_count a)) sound is)
cancelled_sound t this a (Unwinding q u) x sound is h = grind arith

-- what a cancel that is not refused went through
pub record WasCancelled (t : Table) (which : Option Mesh) (x : Counted) : Type 0 where
  pub mesh : Mesh
  pub running : which ≡ Some mesh
  pub source : Group
  pub source_is : group_of t mesh.source ≡ Some source
  pub is : cancelled t mesh source mesh.progress ≡ Ok x

-- a cancel that is not refused
pub cancel_went : (t : Table) (which : Option Mesh) (x : Counted) → cancel t which ≡ Ok x → WasCancelled t which x
cancel_went t which x h =
    let mesh = or_refuse_went NoMesh which _ x h in
    let source = or_refuse_went NoMesh (group_of t mesh.value.source) _ x mesh.then in
    record { mesh = mesh.value; running = mesh.is; source = source.value; source_is = source.is; is = source.then }

-- a cancel of a mesh found by any test keeps the table sound
pub cancel_sound : (t : Table) (test : Mesh → Bool) (x : Counted) → IsSound t → cancel t (find test t.meshes) ≡ Ok x → IsSound x.table
cancel_sound t test x sound h =
    let went = cancel_went t (find test t.meshes) x h in
    cancelled_sound t went.mesh went.source went.mesh.progress x sound went.source_is went.is

-- two lists of slots united are as long as each
united_length : (xs ys : List (Option Slot)) → length xs ≡ length ys → length (united xs ys) ≡ length xs
united_length [] ys h = sym h
united_length (x ∷ xs) [] h = refl
united_length (x ∷ xs) (y ∷ ys) h = grind (arith, united_length xs ys)

-- an object of two lists of slots united is of one of them
pub united_at : (xs ys : List (Option Slot)) (k : ℕ) (slot : Slot) → slice_get (united xs ys) k ≡ Some (Some slot)
    → (slice_get xs k ≡ Some (Some slot)) ⊎ (slice_get ys k ≡ Some (Some slot))
united_at [] ys k slot h = inr h
united_at (x ∷ xs) [] k slot h = inl h
united_at (Some x ∷ xs) (y ∷ ys) zero slot h = inl h
united_at (None ∷ xs) (y ∷ ys) zero slot h = inr h
united_at (x ∷ xs) (y ∷ ys) (suc k) slot h = united_at xs ys k slot h

-- the merged group of two sound ones is sound
merged_group : (a b : Group) → IsSoundGroup a → IsSoundGroup b → a.class ≡ b.class → length a.members + length b.members ≤ 8 → IsSoundGroup (merged_into a b)
merged_group a b sound sound' class few = record {
  class = sound'.class;
  some_member = let some = sound'.some_member in omega (arith, some, length-append b.members a.members);
  few_members = omega (arith, few, length-append b.members a.members);
  places = united_length b.slots a.slots (sound'.places ∙ ap (λ (c : ℕ). slots_of c) (sym class) ∙ sym sound.places) ∙ sound'.places;
  objects = λ k slot h. elim (united_at b.slots a.slots k slot h) [
    | inl own ↦ let old = sound'.objects k slot own in record {
      in_member = let there = old.in_member in let parts = times_in-append slot.member b.members a.members in omega (arith, there, parts);
      some = old.some;
      fits = old.fits;
    }
    | inr other ↦ let old = sound.objects k slot other in record {
      in_member = let there = old.in_member in let parts = times_in-append slot.member b.members a.members in omega (arith, there, parts);
      some = old.some;
      fits = let fits = old.fits in omega (arith, fits, class);
    }
  ];
}

-- the pages of the members, member by member
pages_of_both : (v class : ℕ) (xs ys : List ℕ)
    → times_in v (flat_map (λ p. range_with_len p (pages_of class)) (xs ++ ys))
    ≡ times_in v (flat_map (λ p. range_with_len p (pages_of class)) xs) + times_in v (flat_map (λ p. range_with_len p (pages_of class)) ys)
pages_of_both v class [] ys = sym (zero-add (times_in v (flat_map (λ p. range_with_len p (pages_of class)) ys)))
pages_of_both v class (x ∷ xs) ys = grind (arith, pages_of_both v class xs ys, times_in-append v (range_with_len x (pages_of class)))

-- the merged group has the pages of both
merged_pages : (v : ℕ) (a b : Group) → a.class ≡ b.class
    → times_in v (virtual_pages (merged_into a b)) ≡ times_in v (virtual_pages b) + times_in v (virtual_pages a)
merged_pages v a b class = grind (arith, pages_of_both v b.class b.members a.members)

-- two groups merged, whose class no mesh is of any more, keep the table sound
merged_sound : (t : Table) (free : ℕ) (ms : List Mesh) (a b : Group) (source destination : ℕ) → IsSound t → group_of t source ≡ Some a
    → group_of t destination ≡ Some b → source ≢ destination → a.class ≡ b.class → length a.members + length b.members ≤ 8 → AreSoundMeshes t ms
    → meshes_of a.class ms ≡ 0 → ((class : ℕ) → meshes_of class ms ≤ meshes_of class t.meshes)
    → IsSound (record t { free_pages = free; meshes = ms; groups = merged t.groups a destination })
merged_sound t free ms a b source destination sound is is' two class few meshes none of_class = table_sound t u sound refl
    (λ v. let one = pages_without v a.number 0 t.next_span changed a ascend found in
    let other = pages_changed v destination 0 t.next_span (merged_into a) t.groups b sound.numbers is' in
    let both = merged_pages v a b class in omega (arith, one, other, both))
    (groups_filtered (λ g. not (has_number a.number g)) changed
    (groups_changed destination 0 t.next_span (merged_into a) t.groups b sound.numbers is'
    (merged_group a b (find_sound (has_number source) t.groups a is sound.groups) (find_sound (has_number destination) t.groups b is' sound.groups) class few)
    sound.groups))
    (ascend_filtered 0 t.next_span (λ g. not (has_number a.number g)) changed ascend)
    (meshes_elsewhere t u a.class ms
    (λ n g apart at. find_without_other a.number n changed (λ e. apart (other_class n a source g is at (e ∙ number)))
    ∙ find_changed_other destination n (merged_into a) t.groups (λ x. refl) (λ e. apart (other_class n b destination g is' at e ∙ sym class)) ∙ at) none meshes)
    of_class
  where
    changed : List Group
    changed = map (changed_at destination (merged_into a)) t.groups

    u : Table
    u = record t { free_pages = free; meshes = ms; groups = merged t.groups a destination }

    number : a.number ≡ source
    number = find_number source t.groups a is

    ascend : AscendBetween 0 changed t.next_span
    ascend = ascend_mapped 0 t.next_span (changed_at destination (merged_into a)) t.groups
        (changed_number destination (merged_into a) (λ g. refl)) sound.numbers

    found : find (has_number a.number) changed ≡ Some a
    found = find_changed_other destination a.number (merged_into a) t.groups (λ x. refl) (λ e. two (sym number ∙ e))
        ∙ find_again (has_number source) 0 t.next_span t.groups a sound.numbers is

    other_class : (n : ℕ) (b : Group) (m : ℕ) (g : Group) → group_of t m ≡ Some b → group_of t n ≡ Some g → n ≡ m → g.class ≡ b.class
    other_class n b m g is at e = ap (λ (x : Group). x.class) (one_group t m g b (ap (λ (k : ℕ). group_of t k) (sym e) ∙ at) is)

-- different by the test, and so different
pub differ : (m n : ℕ) → nat_eq m n ≡ false → m ≢ n
differ m n h = elim (eqb_tells m n) [ inl same ↦ let clash : true ≡ false = rw same.0 at h in absurd (cc) | inr other ↦ other.1 ]

-- a whole mesh keeps the table sound
pub whole_sound : (busy : Table → ℕ → Bool) (t : Table) (source destination : ℕ) (whole : Counted) → IsBusyTest busy t → IsSound t
    → mesh_whole busy t source destination ≡ Ok whole → IsSound whole.table
whole_sound busy t source destination whole test sound h =
    let made = meshed busy t source destination whole h in
    let may = made.may in
    subst (λ (x : Counted). IsSound x.table) made.is (merged_sound t (t.free_pages + pages_of made.pair.source.class) t.meshes made.pair.source
    made.pair.destination source destination sound may.source_is may.destination_is (differ source destination may.two) may.class may.few sound.meshes
    (test made.pair.source.class may.idle) (λ class. omega arith))

-- the last step of a mesh keeps the table sound
last_sound : (t : Table) (free : ℕ) (test : Mesh → Bool) (this : Mesh) (a : Group) → IsSound t → find test t.meshes ≡ Some this
    → group_of t this.source ≡ Some a
    → IsSound (record t { free_pages = free; meshes = without_mesh t.meshes this; groups = merged t.groups a this.destination })
last_sound t free test this a sound found is = grind (
  arith,
  nat_tests,
  mesh_found t test t.meshes this found sound.meshes,
  one_group t this.source,
  without_fewer a.class test t.meshes this found,
  merged_sound t free (without_mesh t.meshes this) a,
  differ this.source this.destination,
  meshes_filtered t,
  meshes_of-filtered,
)

-- a step after d steps keeps the table sound
after_sound : (t : Table) (test : Mesh → Bool) (this : Mesh) (a : Group) (d : ℕ) → IsSound t → find test t.meshes ≡ Some this → group_of t this.source ≡ Some a
    → IsSound (table_after t this a d)
after_sound t test this a d sound found is = grind (
  arith,
  nat_tests,
  last_sound t (free_after (kind_after a d) t.free_pages) test this a sound found is,
  come_sound t (free_after (kind_after a d) t.free_pages) this a (Made (d + 1)) sound is,
)

-- an unprotect of a cancelled mesh keeps the table sound
unwound_sound : (t : Table) (this : Mesh) (a : Group) (q u : ℕ) → IsSound t → group_of t this.source ≡ Some a → q ≤ page_count a
    → IsSound (table_unwound t this q u)
unwound_sound t this a q u sound is few = grind (arith, ended_sound t this sound, come_sound t t.free_pages this a (Unwinding q (u + 1)) sound is)

-- a step of a mesh at a progress within its steps keeps the table sound
stepped_sound : (t : Table) (test : Mesh → Bool) (this : Mesh) (a : Group) (progress : Progress) → IsSound t → find test t.meshes ≡ Some this
    → group_of t this.source ≡ Some a → IsWithinSteps a progress → IsSound (stepped t this a progress).table
stepped_sound t test this a (Made d) sound found is within = after_sound t test this a d sound found is
stepped_sound t test this a (Unwinding q u) sound found is within = unwound_sound t this a q u sound is within.1

-- what a step that is not refused went through
pub record WasStepped (t : Table) (which : Option Mesh) (x : Stepped) : Type 0 where
  pub mesh : Mesh
  pub running : which ≡ Some mesh
  pub source : Group
  pub source_is : group_of t mesh.source ≡ Some source
  pub is : stepped t mesh source mesh.progress ≡ x

-- a step that is not refused
pub step_went : (t : Table) (which : Option Mesh) (x : Stepped) → step t which ≡ Ok x → WasStepped t which x
step_went t which x h =
    let mesh = or_refuse_went NoMesh which _ x h in
    let source = or_refuse_went NoMesh (group_of t mesh.value.source) _ x mesh.then in
    let done = source.then in
    record { mesh = mesh.value; running = mesh.is; source = source.value; source_is = source.is; is = cc done }

-- the progress of a mesh of a sound table, found by any test, is within the steps of its source
pub found_within : (t : Table) (test : Mesh → Bool) (this : Mesh) (a : Group) → IsSound t → find test t.meshes ≡ Some this → group_of t this.source ≡ Some a
    → IsWithinSteps a this.progress
found_within t test this a sound found is = grind (arith, nat_tests, mesh_found t test t.meshes this found sound.meshes, one_group t this.source)

-- a step of a mesh found by any test keeps the table sound
pub step_sound : (t : Table) (test : Mesh → Bool) (x : Stepped) → IsSound t → step t (find test t.meshes) ≡ Ok x → IsSound x.table
step_sound t test x sound h = grind (arith, stepped_sound t test, found_within t test)
