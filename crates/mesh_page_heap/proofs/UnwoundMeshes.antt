-- The page heap's invariant as meshes are cancelled and unwound.
use Rattle.std.proofs.Common.{◌≡◌, ◌≢◌, ℕ, ◌+◌, ◌-◌, ◌<◌, ◌≤◌, Bool, false, min, find, List, slice_index_or, Option, Some, None, Ok, Err, ap, refl, sym, ◌∙◌, arith}
use Rattle.std.specs.List.{list_any}
use Rattle.std.proofs.lemmas.Bool.{le-leb, le-ltb, lt-leb, ne_eqb}
use Rattle.mesh_arena.specs.Pages.{Pages}
use Rattle.mesh_class.specs.Classes.{slots_of}
use Rattle.model_heap.specs.Mesh.{cancel, cancelled, page_count, step, table_unwound, with_progress, without_mesh}
use Rattle.model_heap.specs.Table.{Group, Made, Mesh, Progress, Slot, Table, Unwinding, group_of, takes_part}
use Rattle.model_words.specs.declared.commands.StepKind.TheVariants.{Unprotect}
use Rattle.model_words.specs.declared.refusals.Refusal.TheVariants.{TooLate}
use Rattle.model_heap.proofs.TableChanges.{cancel_sound, step_sound}
use Rattle.mesh_pagemap.specs.Entries.{Entries, Protects, prot_of}
use Rattle.mesh_spans.specs.Groups.{groups_of, is_closed, table_group}
use Rattle.mesh_spans.specs.Index.{Index, IsIndex, group_at}
use Rattle.mesh_page_heap.specs.Indexes.{class_in, layout_of, slots_in, table_with}
use Rattle.mesh_page_heap.specs.Layout.{IsPageOf, Layout, Stage, page_total, virtual_page}
use Rattle.mesh_page_heap.specs.MeshLayouts.{mesh_from, stage_at, stage_with}
use Rattle.mesh_page_heap.specs.PageHeapInvariant.{IsPageHeap}
use Rattle.mesh_page_heap.proofs.Changes.{SameGroups}
use Rattle.mesh_page_heap.proofs.Ends.{page_heap_ended, unwind_last}
use Rattle.mesh_page_heap.proofs.Flags.{flags_progress}
use Rattle.mesh_page_heap.proofs.MadeSteps.{Ends, GoesOn, HasSides, has_sides, moved_paged, pages_counted, some_pages}
use Rattle.mesh_page_heap.proofs.MapSteps.{protects_all}
use Rattle.mesh_page_heap.proofs.MeshList.{from_found}
use Rattle.mesh_page_heap.proofs.PageHeapSteps.{page_heap_orderly}
use Rattle.mesh_page_heap.proofs.Stages.{begin_stage}
use Rattle.mesh_page_heap.proofs.Whole.{cancel_step, end_step, unwind_step}

-- the index with the two groups of a mesh opened again
pub record Reopens (old new : Index) (this : Mesh) : Type 0 where
  pub same : SameGroups old new
  pub slots : (n : ℕ) → slots_in (group_at new.groups n) ≡ slots_in (group_at old.groups n)
  pub groups : groups_of new ≡ groups_of old
  pub closed : (n : ℕ) → n ≢ this.source → n ≢ this.destination → is_closed new n ≡ is_closed old n
  pub closed_source : is_closed new this.source ≡ false
  pub closed_destination : is_closed new this.destination ≡ false

-- what the next step of a cancelled mesh is
step_unwinds : (t : Table) (ms : List Mesh) (test : Mesh → Bool) (this : Mesh) (g : Group) (q u : ℕ) → find test ms ≡ Some this → group_of t this.source ≡ Some g
    → this.progress ≡ Unwinding q u → step t (find test ms) ≡ Ok (record { kind = Unprotect; left = q - (u + 1); table = table_unwound t this q u })
step_unwinds t ms test this g q u found source at = rw (found, source, at) refl

module _ (arena : Pages) (m m' : Entries) (index : Index) (next : ℕ) (ms : List Mesh) (test : Mesh → Bool) (this : Mesh) (q u : ℕ)
    (sound : IsIndex index.spans index.groups) (paged : IsPageHeap arena m index next ms) (found : find test ms ≡ Some this)
    (at : this.progress ≡ Unwinding q u) (protects : Protects m m' (virtual_page (layout_of index) this.source u) (prot_of false)) where
  sides : HasSides index (table_with arena index next ms) this
  sides = has_sides arena m index next ms test this paged found

  own : mesh_from this.source ms ≡ Some this
  own = from_found (table_with arena index next ms) test ms this found paged.sound.meshes paged.sound.one_a_class

  -- the page to be unprotected is one of the source
  unwound_page : IsPageOf (layout_of index) this.source u (virtual_page (layout_of index) this.source u)
  unwound_page = grind (arith, sides, pages_counted)

  -- the table's step
  unwinds : step (table_with arena index next ms) (find test ms)
      ≡ Ok (record { kind = Unprotect; left = q - (u + 1); table = table_unwound (table_with arena index next ms) this q u })
  unwinds = step_unwinds (table_with arena index next ms) ms test this (table_group index.spans this.source sides.a) q u found sides.source_group at

  -- an unprotect that isn't the last one
  pub unwind_goes : (left : ℕ) → left + (u + 1) ≡ q → 0 < left → GoesOn arena arena m m' index next ms test this (Unwinding q (u + 1)) left Unprotect
  unwind_goes left left_is some =
      let l : Layout = layout_of index in
      let t : Table = table_with arena index next ms in
      let table : table_unwound t this q u ≡ table_with arena index next (with_progress ms this (Unwinding q (u + 1))) = rw (lt-leb q (u + 1) (omega (arith, left_is, some))) refl in
      let count : q - (u + 1) ≡ left = omega (arith, left_is) in
      let stepped : step t (find test ms) ≡ Ok (record { kind = Unprotect; left = left; table = table_with arena index next (with_progress ms this (Unwinding q (u + 1))) })
      = unwinds ∙ (rw (table, count) refl) in
      let both = unwind_step _ _ this _ _ (page_heap_orderly arena m index next ms sound paged) paged.laid_out own _ _ _ _ at unwound_page protects in
      record {
        paged = moved_paged _ _ _ _ _ _ _ _ this _ _ _ paged (protects_all _ _ _ false protects) both.0 stepped;
        kept = both.1;
        stepped = stepped;
      }

  -- the last one
  pub unwind_ends : (new : Index) → u + 1 ≡ q → Reopens index new this → Ends arena arena m m' index new next ms test this Unprotect
  unwind_ends new last reopens =
      let t : Table = table_with arena index next ms in
      let v : ℕ = virtual_page (layout_of index) this.source u in
      let table : table_unwound t this q u ≡ table_with arena new next (without_mesh ms this) = rw (le-leb q (u + 1) (omega (arith, last)), reopens.groups, reopens.same.spans) refl in
      let count : q - (u + 1) ≡ 0 = omega (arith, last) in
      let stepped : step t (find test ms) ≡ Ok (record { kind = Unprotect; left = 0; table = table_with arena new next (without_mesh ms this) })
      = unwinds ∙ (rw (table, count) refl) in
      let both = unwind_last _ _ _ _ _ _ _ _ _ paged.sound (page_heap_orderly _ _ _ _ _ sound paged) paged.laid_out own at last unwound_page protects in
      record {
        paged = page_heap_ended _ _ _ _ _ _ _ _ _ paged found reopens.same
            (λ n k slot filled. sym (ap (λ (xs : List (Option Slot)). slice_index_or xs k None) (reopens.slots n)) ∙ filled)
            reopens.closed reopens.closed_source reopens.closed_destination (protects_all _ _ _ false protects) both.0
            (step_sound _ _ _ paged.sound stepped);
        kept = both.1;
        stepped = stepped;
      }

-- what a cancel of a mesh answers
cancel_gives : (t : Table) (ms : List Mesh) (test : Mesh → Bool) (this : Mesh) (g : Group) (progress : Progress) → find test ms ≡ Some this
    → group_of t this.source ≡ Some g → this.progress ≡ progress → cancel t (find test ms) ≡ cancelled t this g progress
cancel_gives t ms test this g progress found source at = rw (found, source, at) refl

-- a further cancel of a cancelled mesh
pub unwinding_cancelled : (ms : List Mesh) (t : Table) (test : Mesh → Bool) (this : Mesh) (g : Group) (q u : ℕ) → find test ms ≡ Some this
    → group_of t this.source ≡ Some g → this.progress ≡ Unwinding q u → cancel t (find test ms) ≡ Ok (record { count = q - u; table = t })
unwinding_cancelled ms t test this g q u found source at = cancel_gives t ms test this g (Unwinding q u) found source at

-- a cancel before the first remap
cancelled_early : (t : Table) (this : Mesh) (g : Group) (d q : ℕ) → d ≤ page_count g + slots_of g.class → min d (page_count g) ≡ q → q ≢ 0
    → cancelled t this g (Made d) ≡ Ok (record { count = q; table = record t { meshes = with_progress t.meshes this (Unwinding q 0) } })
cancelled_early t this g d q early is some = rw (le-ltb (page_count g + slots_of g.class) d early, is, ne_eqb q 0 some) refl

-- the same where no page was protected
cancelled_none : (t : Table) (this : Mesh) (g : Group) (d : ℕ) → d ≡ 0
    → cancelled t this g (Made d) ≡ Ok (record { count = 0; table = record t { meshes = without_mesh t.meshes this } })
cancelled_none t this g d none =
    let least : min d (page_count g) ≡ 0 = omega (arith, none) in rw (le-ltb (page_count g + slots_of g.class) d (omega (arith, none)), least) refl

-- what a cancel that leaves its mesh running comes to
pub record Holds (arena : Pages) (m : Entries) (index : Index) (next : ℕ) (ms : List Mesh) (test : Mesh → Bool) (this : Mesh) (progress : Progress) (count : ℕ) : Type 0 where
  pub paged : IsPageHeap arena m index next (with_progress ms this progress)
  pub cancelled : cancel (table_with arena index next ms) (find test ms)
      ≡ Ok (record { count = count; table = table_with arena index next (with_progress ms this progress) })

-- what a cancel that ends its mesh comes to
pub record Stops (arena : Pages) (m : Entries) (old new : Index) (next : ℕ) (ms : List Mesh) (test : Mesh → Bool) (this : Mesh) : Type 0 where
  pub paged : IsPageHeap arena m new next (without_mesh ms this)
  pub cancelled : cancel (table_with arena old next ms) (find test ms) ≡ Ok (record { count = 0; table = table_with arena new next (without_mesh ms this) })

module _ (arena : Pages) (m : Entries) (index : Index) (next : ℕ) (ms : List Mesh) (test : Mesh → Bool) (this : Mesh) (d : ℕ)
    (sound : IsIndex index.spans index.groups) (paged : IsPageHeap arena m index next ms) (found : find test ms ≡ Some this) (at : this.progress ≡ Made d) where
  there : HasSides index (table_with arena index next ms) this
  there = has_sides arena m index next ms test this paged found

  mine : mesh_from this.source ms ≡ Some this
  mine = from_found (table_with arena index next ms) test ms this found paged.sound.meshes paged.sound.one_a_class

  -- what the cancel answers, by the count of the steps made
  cancels : cancel (table_with arena index next ms) (find test ms)
      ≡ cancelled (table_with arena index next ms) this (table_group index.spans this.source there.a) (Made d)
  cancels = cancel_gives (table_with arena index next ms) ms test this (table_group index.spans this.source there.a) (Made d) found there.source_group at

  -- after the first remap it is refused
  pub cancel_late : page_total (layout_of index) this.source + slots_of ((layout_of index).class this.source) < d
      → cancel (table_with arena index next ms) (find test ms) ≡ Err TooLate
  cancel_late late = grind (arith, pages_counted, there)

  -- before it, once a page was protected, the mesh is unwound
  pub cancel_holds : 0 < d → d ≤ page_total (layout_of index) this.source + slots_of ((layout_of index).class this.source)
      → Holds arena m index next ms test this (Unwinding (min d (page_total (layout_of index) this.source)) 0) (min d (page_total (layout_of index) this.source))
  cancel_holds some early =
      let l : Layout = layout_of index in
      let t : Table = table_with arena index next ms in
      let g : Group = table_group index.spans this.source there.a in
      let total = pages_counted index this.source there.a there.source in
      let s = ap slots_of (ap class_in there.source) in
      let q : ℕ = min d (page_total l this.source) in
      let pages = (some_pages index this.source there.a sound there.source).0 in
      let gives = cancels ∙ cancelled_early t this g d q (omega (arith, early, total, s)) (ap (min d) total) (λ none. omega (arith, none, some, pages)) in
      let laid_out = cancel_step l ms this m arena (page_heap_orderly arena m index next ms sound paged) paged.laid_out mine d at early in
      let flags : (n : ℕ) → is_closed index n ≡ list_any (takes_part n) (with_progress ms this (Unwinding q 0))
      = λ n. paged.flags n ∙ sym (flags_progress ms this (Unwinding q 0) n) in
      let whole = cancel_sound t test (record { count = q; table = table_with arena index next (with_progress ms this (Unwinding q 0)) }) paged.sound gives in assumption

  -- and where none was it ends
  pub cancel_stops : (new : Index) → d ≡ 0 → Reopens index new this → Stops arena m index new next ms test this
  cancel_stops new none reopens =
      let l : Layout = layout_of index in
      let t : Table = table_with arena index next ms in
      let g : Group = table_group index.spans this.source there.a in
      let now = ap (stage_with l this.source) mine ∙ ap (stage_at (page_total l this.source) (slots_of (l.class this.source)) this.destination) (at ∙ ap Made none)
      ∙ begin_stage (page_total l this.source) (slots_of (l.class this.source)) this.destination in
      let table : record t { meshes = without_mesh ms this } ≡ table_with arena new next (without_mesh ms this) = rw (reopens.groups, reopens.same.spans) refl in
      let gives = cancels ∙ cancelled_none t this g d none ∙ ap (λ (x : Table). Ok (record { count = 0; table = x })) table in
      record {
        paged = page_heap_ended arena m m index new next ms test this paged found reopens.same
            (λ n k slot filled. sym (ap (λ (xs : List (Option Slot)). slice_index_or xs k None) (reopens.slots n)) ∙ filled)
            reopens.closed reopens.closed_source reopens.closed_destination (λ v. refl)
            (end_step l ms this m arena (page_heap_orderly arena m index next ms sound paged) paged.laid_out mine t paged.sound.meshes paged.sound.one_a_class
            (omega (arith, ap (λ (c : Stage). c.locked_to) now)) (ap (λ (c : Stage). c.remapped) now) (ap (λ (c : Stage). c.released) now))
            (cancel_sound t test (record { count = 0; table = table_with arena new next (without_mesh ms this) }) paged.sound gives);
        cancelled = gives;
      }
