-- The page heap's invariant after each step of a mesh, and the table's step.
use Rattle.std.proofs.Common.{◌≡◌, ◌≢◌, ℕ, ◌+◌, ◌-◌, ◌*◌, ◌%◌, ◌<◌, ◌≤◌, Bool, true, false, find, List, length, Option, Some, None, Ok, ap, subst, refl, sym, ◌∙◌, arith, inl, inr}
use Rattle.std.specs.List.{list_any}
use Rattle.std.proofs.lemmas.Bool.{eqb-false}
use Rattle.std.proofs.lemmas.Bool.Decides.{eqb_tells}
use Rattle.std.proofs.lemmas.List.{length-map}
use Rattle.mesh_arena.specs.Pages.{Gives, Pages, free_count}
use Rattle.mesh_class.specs.Classes.{pages_of, slots_of}
use Rattle.model_heap.specs.Mesh.{do_overlap, kind_after, page_count, step, merged, step_count, table_after, with_progress, without_mesh}
use Rattle.model_heap.specs.Sound.{IsWithinSteps}
use Rattle.model_heap.specs.Table.{Group, Made, Mesh, Progress, Slot, Table, group_of, takes_part}
use Rattle.model_words.specs.declared.commands.StepKind.{StepKind}
use Rattle.model_words.specs.declared.commands.StepKind.TheVariants.{Copy, Protect, Release, Remap, Unprotect}
use Rattle.model_heap.proofs.MeshLists.{mesh_found}
use Rattle.model_heap.proofs.TableChanges.{step_sound}
use Rattle.mesh_pagemap.specs.Entries.{Entries, is_mapped}
use Rattle.mesh_spans.specs.Groups.{first_of, groups_of, is_closed, table_group}
use Rattle.mesh_spans.specs.Index.{AreUnused, GroupEntry, Index, IsIndex, group_at, span_at}
use Rattle.mesh_page_heap.specs.Indexes.{class_in, layout_of, table_with}
use Rattle.mesh_page_heap.specs.Layout.{IsLaidOut, IsOrderly, IsPageOf, Layout, page_total, virtual_page}
use Rattle.mesh_page_heap.specs.MeshLayouts.{mesh_from, stage_of, stage_with}
use Rattle.mesh_page_heap.specs.PageHeapInvariant.{IsPageHeap}
use Rattle.mesh_page_heap.specs.StepChanges.{CopiesSlot, IsStepAt, Keeps, Makes}
use Rattle.mesh_page_heap.proofs.Changes.{MergesIndex, index_merges, stage_none, stage_same}
use Rattle.mesh_page_heap.proofs.Flags.{flags_progress}
use Rattle.mesh_page_heap.proofs.Groups.{IsEntry, table_entry}
use Rattle.mesh_page_heap.proofs.MapSteps.{protects_all, remaps_all}
use Rattle.mesh_page_heap.proofs.MeshList.{from_found, without_here, without_moves, without_others}
use Rattle.mesh_page_heap.proofs.NextSteps.{kind_is, last_after, quiet_after, release_after, release_kind}
use Rattle.mesh_page_heap.proofs.Orderly.{no_mesh_from}
use Rattle.mesh_page_heap.proofs.PageHeapSteps.{flags_ended, page_heap_orderly}
use Rattle.mesh_page_heap.proofs.Whole.{copy_step, last_step, protect_step, release_step, remap_step, skip_step, unprotect_step}
pub use Rattle.mesh_page_heap.proofs.Groups.{pages_counted}

-- the two groups of a running mesh in the index
pub record HasSides (index : Index) (t : Table) (this : Mesh) : Type 0 where
  pub a : GroupEntry
  pub b : GroupEntry
  pub source : group_at index.groups this.source ≡ Some a
  pub destination : group_at index.groups this.destination ≡ Some b
  pub source_group : group_of t this.source ≡ Some (table_group index.spans this.source a)
  pub two : this.source ≢ this.destination
  pub source_class : a.class ≡ this.class
  pub destination_class : b.class ≡ this.class
  pub apart : do_overlap a.slots b.slots ≡ false
  pub few : length a.members + length b.members ≤ 8
  pub within : IsWithinSteps (table_group index.spans this.source a) this.progress

-- a running mesh has its two groups
pub has_sides : (arena : Pages) (m : Entries) (index : Index) (next : ℕ) (ms : List Mesh) (test : Mesh → Bool) (this : Mesh) → IsPageHeap arena m index next ms
    → find test ms ≡ Some this → HasSides index (table_with arena index next ms) this
has_sides arena m index next ms test this paged found =
    let is = mesh_found (table_with arena index next ms) test ms this found paged.sound.meshes in
    let a : IsEntry index this.source is.source = table_entry index this.source is.source is.source_is in
    let b : IsEntry index this.destination is.destination = table_entry index this.destination is.destination is.destination_is in
    let few = is.few_members in
    let long_b : length is.destination.members ≡ length b.entry.members
    = ap (λ (g : Group). length g.members) b.same ∙ length-map b.entry.members (first_of index.spans) in
    record {
      a = a.entry;
      b = b.entry;
      source = a.there;
      destination = b.there;
      source_group = is.source_is ∙ ap (λ (g : Group). Some g) a.same;
      two = eqb-false this.source this.destination is.two;
      source_class = sym (ap (λ (g : Group). g.class) a.same) ∙ is.source_class;
      destination_class = sym (ap (λ (g : Group). g.class) b.same) ∙ is.destination_class;
      apart = sym (ap (λ (g : Group). do_overlap g.slots is.destination.slots) a.same ∙ ap (λ (g : Group). do_overlap a.entry.slots g.slots) b.same) ∙ is.apart;
      few = omega (arith, few, (ap (λ (g : Group). length g.members) a.same ∙ length-map a.entry.members (first_of index.spans)), long_b);
      within = subst (λ (g : Group). IsWithinSteps g this.progress) a.same is.within;
    }

-- what the next step is
step_gives : (t : Table) (ms : List Mesh) (test : Mesh → Bool) (this : Mesh) (g : Group) (d : ℕ) → find test ms ≡ Some this → group_of t this.source ≡ Some g
    → this.progress ≡ Made d
    → step t (find test ms) ≡ Ok (record { kind = kind_after g d; left = step_count g - (d + 1); table = table_after t this g d })
step_gives t ms test this g d found source at = rw (found, source, at) refl

-- a step after which the groups lie as the mesh at its next progress has them leaves a page heap
pub moved_paged : (arena arena' : Pages) (m m' : Entries) (index : Index) (next : ℕ) (ms : List Mesh) (test : Mesh → Bool) (this : Mesh) (progress : Progress) (left : ℕ)
    (kind : StepKind) → IsPageHeap arena m index next ms → ((v : ℕ) → is_mapped m' v ≡ is_mapped m v)
    → IsLaidOut (layout_of index) (stage_of (layout_of index) (with_progress ms this progress)) m' arena'
    → step (table_with arena index next ms) (find test ms)
    ≡ Ok (record { kind = kind; left = left; table = table_with arena' index next (with_progress ms this progress) })
    → IsPageHeap arena' m' index next (with_progress ms this progress)
moved_paged arena arena' m m' index next ms test this progress left kind paged mapped laid stepped =
    let fresh : (v : ℕ) → next ≤ v → is_mapped m' v ≡ false = λ v high. mapped v ∙ paged.fresh v high in
    let flags : (n : ℕ) → is_closed index n ≡ list_any (takes_part n) (with_progress ms this progress) = λ n. paged.flags n ∙ sym (flags_progress ms this progress n) in
    let sound = step_sound _ _ _ paged.sound stepped in assumption

-- what a step that isn't the last one comes to
pub record GoesOn (arena arena' : Pages) (m m' : Entries) (index : Index) (next : ℕ) (ms : List Mesh) (test : Mesh → Bool) (this : Mesh) (progress : Progress)
    (left : ℕ) (kind : StepKind) : Type 0 where
  pub paged : IsPageHeap arena' m' index next (with_progress ms this progress)
  pub kept : Keeps (layout_of index) arena arena' m m'
  pub stepped : step (table_with arena index next ms) (find test ms)
      ≡ Ok (record { kind = kind; left = left; table = table_with arena' index next (with_progress ms this progress) })

module _ (arena arena' : Pages) (m m' : Entries) (index : Index) (next : ℕ) (ms : List Mesh) (test : Mesh → Bool) (this : Mesh) (d left : ℕ) (g : Group)
    (sound : IsIndex index.spans index.groups) (paged : IsPageHeap arena m index next ms) (found : find test ms ≡ Some this) (at : this.progress ≡ Made d)
    (left_is : left + (d + 1) ≡ 3 * page_total (layout_of index) this.source + slots_of ((layout_of index).class this.source) + pages_of ((layout_of index).class this.source))
    (group_is : group_of (table_with arena index next ms) this.source ≡ Some g) (total : page_count g ≡ page_total (layout_of index) this.source)
    (class : g.class ≡ (layout_of index).class this.source) (pages : 0 < pages_of g.class) (two : this.source ≢ this.destination) where
  -- the table's step, where the kind is known and no mesh ends
  gives : (kind : StepKind) → kind_after g d ≡ kind → table_after (table_with arena index next ms) this g d
      ≡ table_with arena' index next (with_progress ms this (Made (d + 1)))
      → step (table_with arena index next ms) (find test ms)
      ≡ Ok (record { kind = kind; left = left; table = table_with arena' index next (with_progress ms this (Made (d + 1))) })
  gives kind is table = grind arith

  -- what is laid out after such a step, and the bytes of its objects
  went : (kind : StepKind) → ((v : ℕ) → is_mapped m' v ≡ is_mapped m v)
      → IsLaidOut (layout_of index) (stage_of (layout_of index) (with_progress ms this (Made (d + 1)))) m' arena' × Keeps (layout_of index) arena arena' m m'
      → kind_after g d ≡ kind → table_after (table_with arena index next ms) this g d ≡ table_with arena' index next (with_progress ms this (Made (d + 1)))
      → GoesOn arena arena' m m' index next ms test this (Made (d + 1)) left kind
  went kind mapped both is table = record {
    paged = moved_paged arena arena' m m' index next ms test this (Made (d + 1)) left kind paged mapped both.0 (gives kind is table);
    kept = both.1;
    stepped = gives kind is table;
  }

  -- the same of a step that gives no page back, and so leaves the free pages
  stays : (kind : StepKind) → kind ≢ Release → kind_after g d ≡ kind → d < 3 * page_count g + slots_of g.class → free_count arena' ≡ free_count arena
      → ((v : ℕ) → is_mapped m' v ≡ is_mapped m v)
      → IsLaidOut (layout_of index) (stage_of (layout_of index) (with_progress ms this (Made (d + 1)))) m' arena' × Keeps (layout_of index) arena arena' m m'
      → GoesOn arena arena' m m' index next ms test this (Made (d + 1)) left kind
  stays kind other is below free mapped both = went _ mapped both is (quiet_after _ this _ _ pages below (λ e. other (sym is ∙ e))
      ∙ ap (λ (n : ℕ). record (table_with arena index next ms) { free_pages = n; meshes = with_progress ms this (Made (d + 1)) }) (sym free))

  -- the mesh is the one from its source
  own : mesh_from this.source ms ≡ Some this
  own = from_found (table_with arena index next ms) test ms this found paged.sound.meshes paged.sound.one_a_class

  orderly : IsOrderly (layout_of index) (stage_of (layout_of index) ms)
  orderly = page_heap_orderly arena m index next ms sound paged

  -- a virtual page of the source is the one of its number
  page : (i : ℕ) → i < page_total (layout_of index) this.source → IsPageOf (layout_of index) this.source i (virtual_page (layout_of index) this.source i)
  page i below = record { within = below; at = refl }

  -- a slot with an object or without one is copied
  copied : (k : ℕ) → d ≡ page_total (layout_of index) this.source + k → k < slots_of ((layout_of index).class this.source) → (o : Option Slot)
      → (layout_of index).slot this.source k ≡ o → CopiesSlot (layout_of index) arena arena' this.source this.destination k o
      → IsLaidOut (layout_of index) (stage_of (layout_of index) (with_progress ms this (Made (d + 1)))) m arena' × Keeps (layout_of index) arena arena' m m
      × (free_count arena' ≡ free_count arena)
  copied k same below None none same_arena = rw (same, same_arena) (
    skip_step (layout_of index) ms this m arena orderly paged.laid_out own k below (at ∙ ap Made same) none,
    record { each = λ n j o x slot live. refl; same_length = refl },
    refl,
  )
  copied k same below (Some slot) filled copies =
      let both = copy_step (layout_of index) ms this m arena orderly paged.laid_out own arena' k slot two below (at ∙ ap Made same) filled copies.0 in
      rw same (both.0, both.1, copies.1)

  -- a step that isn't the last one
  goes : (kind : StepKind) (i : ℕ)
      → IsStepAt (page_total (layout_of index) this.source) (slots_of ((layout_of index).class this.source)) (pages_of ((layout_of index).class this.source)) d kind i
      → kind_after g d ≡ kind → 0 < left → 0 < page_total (layout_of index) this.source → Makes (layout_of index) kind this.source this.destination i arena arena' m m'
      → GoesOn arena arena' m m' index next ms test this (Made (d + 1)) left kind
  goes Protect i step is more some makes = let l : Layout = layout_of index in
      stays Protect (λ e. cc e) is (omega (arith, step, total)) (ap free_count makes.0) (protects_all m m' (virtual_page l this.source i) true makes.1) (rw (step.0, makes.0)
      (protect_step l ms this m arena orderly paged.laid_out own m' i (virtual_page l this.source i) (at ∙ ap Made step.0) step.1 (page i step.1) makes.1))
  goes Copy k step is more some makes = let both = copied k step.0 step.1 ((layout_of index).slot this.source k) refl makes.1 in
      stays Copy (λ e. cc e) is (omega (arith, step, total, ap slots_of class, pages)) both.2 (λ v. ap (λ (x : Entries). is_mapped x v) makes.0)
      (rw makes.0 (both.0, both.1))
  goes Remap i step is more some makes = let l : Layout = layout_of index in
      stays Remap (λ e. cc e) is (omega (arith, step, total, ap slots_of class)) (ap free_count makes.0)
      (remaps_all m m' (virtual_page l this.source i) (l.page this.destination (i % pages_of (l.class this.source))) makes.1) (rw (step.0, makes.0)
      (remap_step l ms this m arena orderly paged.laid_out own m' i (virtual_page l this.source i) step.1 (at ∙ ap Made step.0) (page i step.1) makes.1))
  goes Unprotect i step is more some makes = let l : Layout = layout_of index in
      stays Unprotect (λ e. cc e) is (omega (arith, step, total, ap slots_of class)) (ap free_count makes.0)
      (protects_all m m' (virtual_page l this.source i) false makes.1) (rw (step.0, makes.0)
      (unprotect_step l ms this m arena orderly paged.laid_out own m' i (virtual_page l this.source i) step.1 (at ∙ ap Made step.0) (page i step.1) makes.1))
  goes Release j step is more some makes =
      let number : d ≡ 3 * page_count g + slots_of g.class + j = omega (arith, step, total, ap slots_of class) in
      let below : j + 1 < pages_of ((layout_of index).class this.source) = omega (arith, left_is, step, more) in
      went Release (λ v. ap (λ (x : Entries). is_mapped x v) makes.0) (rw (makes.0, step.0)
      (release_step (layout_of index) ms this m arena orderly paged.laid_out own arena' j two some (omega (arith, below)) (at ∙ ap Made step.0) makes.1)) is
      (ap (table_after (table_with arena index next ms) this g) number ∙ release_after (table_with arena index next ms) this g j (omega (arith, below, ap pages_of class))
      ∙ (rw (makes.1.more, number) refl))

-- a group has a virtual page, and a physical one
pub some_pages : (index : Index) (n : ℕ) (a : GroupEntry) → IsIndex index.spans index.groups → group_at index.groups n ≡ Some a
    → (0 < page_total (layout_of index) n) × (0 < pages_of ((layout_of index).class n)) × (0 < pages_of a.class)
some_pages index n a sound there = grind arith

-- a step that isn't the last one leaves a page heap, with the bytes of its objects, and is the table's next
pub page_heap_goes : (arena arena' : Pages) (m m' : Entries) (index : Index) (next : ℕ) (ms : List Mesh) (test : Mesh → Bool) (this : Mesh) (d left i : ℕ)
    (kind : StepKind) → IsIndex index.spans index.groups → IsPageHeap arena m index next ms → find test ms ≡ Some this → this.progress ≡ Made d
    → left + (d + 1) ≡ 3 * page_total (layout_of index) this.source + slots_of ((layout_of index).class this.source) + pages_of ((layout_of index).class this.source)
    → 0 < left
    → IsStepAt (page_total (layout_of index) this.source) (slots_of ((layout_of index).class this.source)) (pages_of ((layout_of index).class this.source)) d kind i
    → Makes (layout_of index) kind this.source this.destination i arena arena' m m' → GoesOn arena arena' m m' index next ms test this (Made (d + 1)) left kind
page_heap_goes arena arena' m m' index next ms test this d left i kind sound paged found at left_is more step_at makes =
    let sides : HasSides index (table_with arena index next ms) this = has_sides arena m index next ms test this paged found in
    let some = some_pages index this.source sides.a sound sides.source in
    goes arena arena' m m' index next ms test this d left (table_group index.spans this.source sides.a) sound paged found at left_is
    sides.source_group (pages_counted index this.source sides.a sides.source) (sym (ap class_in sides.source)) some.2 sides.two
    kind i step_at (kind_is (table_group index.spans this.source sides.a) _ _ _ d i kind (pages_counted index this.source sides.a sides.source)
    (ap slots_of (sym (ap class_in sides.source))) step_at).0 more some.0 makes

-- the index once the source was merged into the destination, which was opened
pub record Unites (old new : Index) (this : Mesh) (a b : GroupEntry) : Type 0 where
  pub merges : MergesIndex old new this.source this.destination
  pub source_is : merges.a ≡ a
  pub spans : length new.spans ≡ length old.spans
  pub classes : (i : ℕ) → (span_at new.spans i).class ≡ (span_at old.spans i).class
  pub groups : groups_of new ≡ merged (groups_of old) (table_group old.spans this.source a) this.destination
  pub closed : (n : ℕ) → n ≢ this.source → n ≢ this.destination → is_closed new n ≡ is_closed old n
  pub closed_source : is_closed new this.source ≡ false
  pub closed_destination : is_closed new this.destination ≡ false

-- what the last step comes to
pub record Ends (arena arena' : Pages) (m m' : Entries) (old new : Index) (next : ℕ) (ms : List Mesh) (test : Mesh → Bool) (this : Mesh) (kind : StepKind) : Type 0 where
  pub paged : IsPageHeap arena' m' new next (without_mesh ms this)
  pub kept : Keeps (layout_of old) arena arena' m m'
  pub stepped : step (table_with arena old next ms) (find test ms)
      ≡ Ok (record { kind = kind; left = 0; table = table_with arena' new next (without_mesh ms this) })

-- the last step gives the last page back and merges the groups
module _ (arena arena' : Pages) (m m' : Entries) (old new : Index) (next : ℕ) (ms : List Mesh) (test : Mesh → Bool) (this : Mesh) (d : ℕ) (a b : GroupEntry)
    (sound : IsIndex old.spans old.groups) (paged : IsPageHeap arena m old next ms) (found : find test ms ≡ Some this) (at : this.progress ≡ Made d)
    (last : d + 1 ≡ 3 * page_total (layout_of old) this.source + slots_of ((layout_of old).class this.source) + pages_of ((layout_of old).class this.source))
    (unites : Unites old new this a b) where
  -- the mesh is the one from its source
  own_mesh : mesh_from this.source ms ≡ Some this
  own_mesh = from_found (table_with arena old next ms) test ms this found paged.sound.meshes paged.sound.one_a_class

  -- the groups lie as they should once both are done
  merged_laid : (j : ℕ) → j + 1 ≡ pages_of ((layout_of old).class this.source) → 0 < page_total (layout_of old) this.source
      → this.progress ≡ Made (3 * page_total (layout_of old) this.source + slots_of ((layout_of old).class this.source) + j)
      → Gives arena arena' ((layout_of old).page this.source j)
      → IsLaidOut (layout_of new) (stage_of (layout_of new) (without_mesh ms this)) m arena' × Keeps (layout_of old) arena arena' m m
  merged_laid j ends some now gives =
      let t : Table = table_with arena old next ms in
      let l : Layout = layout_of old in
      let l' : Layout = layout_of new in
      let is = mesh_found t test ms this found paged.sound.meshes in
      let two : this.source ≢ this.destination = eqb-false this.source this.destination is.two in
      let back : this.destination ≢ this.source = λ e. two (sym e) in
      let merged = index_merges old new this.source this.destination unites.merges two in
      let idles = without_moves t l ms this paged.sound.meshes paged.sound.one_a_class own_mesh in
      let none : mesh_from this.destination ms ≡ None = no_mesh_from old t sound paged.sound refl this.source this own_mesh in
      last_step l ms this m arena (page_heap_orderly arena m old next ms sound paged) paged.laid_out own_mesh l' arena' j (stage_of l' (without_mesh ms this))
      two some ends now gives merged (record {
        here = ap (stage_with l' this.source) (without_here t ms this paged.sound.meshes is (paged.sound.one_a_class this.class) own_mesh);
        others = λ n other. elim (eqb_tells n this.destination) [
          | inl same ↦ rw same.1 (stage_none l l' (without_mesh ms this) this.destination (without_others ms this this.destination back ∙ none)
              ∙ idles.others this.destination back)
          | inr apart ↦ stage_same l l' (without_mesh ms this) n (merged.class n other) (merged.members n other apart.1) ∙ idles.others n other
        ];
      })

  -- as its release is told
  released : (j : ℕ) → d ≡ 3 * page_total (layout_of old) this.source + slots_of ((layout_of old).class this.source) + j
      → Makes (layout_of old) Release this.source this.destination j arena arena' m m' → Ends arena arena' m m' old new next ms test this Release
  released j same makes =
      let t : Table = table_with arena old next ms in
      let l : Layout = layout_of old in
      let sides = has_sides arena m old next ms test this paged found in
      let g : Group = table_group old.spans this.source a in
      let there : group_at old.groups this.source ≡ Some a = unites.merges.source ∙ ap (λ (x : GroupEntry). Some x) unites.source_is in
      let same_a : sides.a ≡ a = (let both : Some sides.a ≡ Some a = sym sides.source ∙ there in cc both) in
      let group_is : group_of t this.source ≡ Some g = sides.source_group ∙ ap (λ (x : GroupEntry). Some (table_group old.spans this.source x)) same_a in
      let total = pages_counted old this.source a there in
      let s : slots_of a.class ≡ slots_of (l.class this.source) = ap slots_of (sym (ap class_in there)) in
      let p : pages_of a.class ≡ pages_of (l.class this.source) = ap pages_of (sym (ap class_in there)) in
      let is : d ≡ 3 * page_count g + slots_of g.class + j = omega (arith, same, total, s) in
      let ends : j + 1 ≡ pages_of g.class = omega (arith, last, same, p) in
      let table : table_after t this g d ≡ table_with arena' new next (without_mesh ms this)
      = ap (table_after t this g) is ∙ last_after t this g j ends ∙ (rw (makes.1.more, unites.spans, unites.groups) refl) in
      let kind : kind_after g d ≡ Release = ap (kind_after g) is ∙ release_kind g j in
      let count : step_count g - (d + 1) ≡ 0 = omega (arith, last, total, s, p) in
      let stepped : step t (find test ms) ≡ Ok (record { kind = Release; left = 0; table = table_with arena' new next (without_mesh ms this) })
      = step_gives t ms test this g d found group_is at ∙ (rw (table, kind, count) refl) in
      let both = merged_laid j (omega (arith, ends, p)) (some_pages old this.source a sound there).0 (at ∙ ap Made same) makes.1 in
      let laid = both.0 in
      let unused : AreUnused new next = λ i below.
      (let was = paged.unused i (omega (arith, below, unites.spans)) in omega (arith, unites.merges.firsts i, ap pages_of (unites.classes i), was)) in
      let flags = flags_ended t old new this paged.sound own_mesh paged.flags unites.closed unites.closed_source unites.closed_destination in
      let whole = step_sound t test (record { kind = Release; left = 0; table = table_with arena' new next (without_mesh ms this) }) paged.sound stepped in
      record { paged = rw makes.0 assumption; kept = rw makes.0 both.1; stepped = stepped }

  some_page : 0 < pages_of ((layout_of old).class this.source)
  some_page = (some_pages old this.source a sound (unites.merges.source ∙ ap (λ (x : GroupEntry). Some x) unites.source_is)).1

  -- whatever its kind is told to be
  pub page_heap_ends : (i : ℕ) (kind : StepKind)
      → IsStepAt (page_total (layout_of old) this.source) (slots_of ((layout_of old).class this.source)) (pages_of ((layout_of old).class this.source)) d kind i
      → Makes (layout_of old) kind this.source this.destination i arena arena' m m' → Ends arena arena' m m' old new next ms test this kind
  page_heap_ends i Protect is makes = absurd (let e = is.0 in let b = is.1 in let p = some_page in omega (arith, e, b, last, p))
  page_heap_ends i Copy is makes = absurd (let e = is.0 in let b = is.1 in let p = some_page in omega (arith, e, b, last, p))
  page_heap_ends i Remap is makes = absurd (let e = is.0 in let b = is.1 in let p = some_page in omega (arith, e, b, last, p))
  page_heap_ends i Unprotect is makes = absurd (let e = is.0 in let b = is.1 in let p = some_page in omega (arith, e, b, last, p))
  page_heap_ends i Release is makes = released i is.0 makes
