-- The index after the last step of a mesh, and what each step leaves.
use Rattle.std.proofs.Common.{◌≡◌, ◌≢◌, ℕ, ◌+◌, ◌*◌, ◌<◌, ◌≤◌, false, not, ◌&&◌, min, nat_eq, length, remove, slice_set, List, Option, Some, None, ap, subst, refl, ◌∙◌, arith, inl, inr}
use Rattle.std.specs.Option.{option_map}
use Rattle.std.proofs.lemmas.Bool.Decides.{eqb_tells}
use Rattle.std.proofs.lemmas.List.{get_or-set_other, get_or-set_same}
use Rattle.std.proofs.Math.ListN.{length-set}
use Rattle.mesh_arena.specs.Pages.{Pages}
use Rattle.mesh_class.specs.Classes.{pages_of, slots_of}
use Rattle.mesh_page_heap.specs.Indexes.{layout_of}
use Rattle.mesh_page_heap.specs.Layout.{page_total, virtual_page}
use Rattle.mesh_page_heap.specs.PageHeapInvariant.{IsPageHeap}
use Rattle.mesh_page_heap.specs.StepChanges.{IsStepAt, Makes}
use Rattle.mesh_page_heap.proofs.Beginnings.{Flags}
use Rattle.mesh_page_heap.proofs.MadeSteps.{Unites, page_heap_ends, page_heap_goes}
use Rattle.mesh_page_heap.proofs.MeshPlaces.{progress_set, without_at}
use Rattle.mesh_page_heap.proofs.StepEffects.{step_has_effect, unwinding_has_effect}
use Rattle.mesh_page_heap.proofs.UnwoundMeshes.{Holds, Reopens, cancel_holds, cancel_stops, unwind_ends, unwind_goes}
use Rattle.model_heap.specs.Mesh.{merged, with_progress, without_mesh}
use Rattle.model_heap.specs.Table.{Made, Mesh, Unwinding}
use Rattle.model_words.specs.declared.commands.StepKind.{StepKind}
use Rattle.model_words.specs.declared.commands.StepKind.TheVariants.{Unprotect}
use Rattle.mesh_pagemap.specs.Entries.{Entries, Protects, prot_of}
use Rattle.mesh_spans.specs.Changes.{Merges, merged_entry, with_mesh}
use Rattle.mesh_spans.specs.Groups.{groups_of, is_closed, table_group}
use Rattle.mesh_spans.specs.Index.{GroupEntry, Index, SpanEntry, group_at, span_at}
use Rattle.mesh_page_heap.proofs.GroupNumbers.{group_below}
use Rattle.mesh_page_heap.proofs.MeshRuns.{Runs, sides}
use Rattle.mesh_page_heap.specs.Meshes.{IsCancelled, IsStepped, IsWoundBack, OpensBoth}
use Rattle.mesh_page_heap.specs.PageHeap.{PageHeap, table_in}

-- a count that isn't 0
pub positive : (n : ℕ) → n ≢ 0 → 0 < n
positive n some = omega (arith, some)

-- a mesh with its own two groups
pub same_sides : (this : Mesh) (s d : ℕ) → s ≡ this.source → d ≡ this.destination → ◌≡◌ {A = Mesh} (record this { source = s; destination = d }) this
same_sides this s d source destination = rw (source, destination) refl

-- the group that two were merged into
pub merged_group : (old new : Index) (s d : ℕ) (a b : GroupEntry) → Merges old new s d a b → group_at new.groups d ≡ Some (merged_entry a b)
merged_group old new s d a b merges =
    let below = group_below old.groups d b merges.destination in
    ap (λ (gs : List (Option GroupEntry)). group_at gs d) merges.groups
    ∙ get_or-set_same (slice_set old.groups s None) d (Some (merged_entry a b)) None (omega (arith, below, length-set old.groups s None))

-- the source was merged into the destination, which was opened then
module _ (old mid new : Index) (this : Mesh) (a b : GroupEntry) (two : this.source ≢ this.destination) (merges : Merges old mid this.source this.destination a b)
    (table : groups_of mid ≡ merged (groups_of old) (table_group old.spans this.source a) this.destination)
    (closed : (n : ℕ) → is_closed mid n ≡ (not (nat_eq n this.source) && is_closed old n)) (opens : Flags mid new this.destination false)
    (table' : groups_of new ≡ groups_of mid) (closed' : (n : ℕ) → is_closed new n ≡ (not (nat_eq n this.destination) && is_closed mid n)) where
  -- a group but the destination is as it was, without the source
  other_than : (n : ℕ) → n ≢ this.destination → group_at new.groups n ≡ group_at (slice_set old.groups this.source None) n
  other_than n other = grind (arith, get_or-set_other)

  merged_there : group_at mid.groups this.destination ≡ Some (merged_entry a b)
  merged_there = merged_group old mid this.source this.destination a b merges

  pub united_index : Unites old new this a b
  united_index = record {
    merges = record {
      a = a;
      b = b;
      source = merges.source;
      destination = merges.destination;
      gone = other_than _ two ∙ get_or-set_same old.groups this.source None None (group_below _ _ _ merges.source);
      merged = ap (λ (gs : List (Option GroupEntry)). group_at gs this.destination) opens.groups
          ∙ get_or-set_same mid.groups this.destination (option_map (with_mesh false) (group_at mid.groups this.destination)) None
          (group_below _ _ _ merged_there) ∙ ap (option_map (with_mesh false)) merged_there;
      others = λ n not_s not_d. other_than _ not_d ∙ get_or-set_other old.groups this.source n None None not_s;
      firsts = λ i. ap (λ (xs : List SpanEntry). (span_at xs i).first) opens.spans ∙ merges.spans.firsts i;
    };
    source_is = refl;
    spans = ap (λ (xs : List SpanEntry). length xs) opens.spans ∙ merges.spans.long;
    classes = λ i. ap (λ (xs : List SpanEntry). (span_at xs i).class) opens.spans ∙ merges.spans.classes i;
    groups = table' ∙ table;
    closed = λ n not_s not_d. closed' n ∙ (elim (eqb_tells n this.destination) [
      | inl e ↦ absurd (not_d e.1)
      | inr apart ↦ rw apart.0 (closed n ∙ (elim (eqb_tells n this.source) [ inl e ↦ absurd (not_s e.1) | inr off ↦ rw off.0 refl ]))
    ]);
    closed_source = closed' this.source ∙ (elim (eqb_tells this.source this.destination) [
      | inl e ↦ absurd (two e.1)
      | inr apart ↦ rw apart.0 (closed this.source ∙ (elim (eqb_tells this.source this.source) [ inl e ↦ rw e.0 refl | inr off ↦ absurd (off.1 refl) ]))
    ]);
    closed_destination = closed' this.destination
        ∙ (elim (eqb_tells this.destination this.destination) [ inl e ↦ rw e.0 refl | inr off ↦ absurd (off.1 refl) ]);
  }

-- the groups of a mesh opened again
pub reopened : (old new : Index) (this : Mesh) → OpensBoth old new this.source this.destination → Reopens old new this
reopened old new this opens = grind arith

module _ (g : PageHeap) (place : ℕ) (this : Mesh) (runs : Runs g place this) where
  -- a step that isn't the last
  pub went_on : (arena : Pages) (map : Entries) (d left i : ℕ) (kind : StepKind) (new : PageHeap) → this.progress ≡ Made d
      → left + (d + 1) ≡ 3 * page_total (layout_of g.index) this.source + slots_of ((layout_of g.index).class this.source) + pages_of ((layout_of g.index).class this.source)
      → 0 < left
      → IsStepAt (page_total (layout_of g.index) this.source) (slots_of ((layout_of g.index).class this.source)) (pages_of ((layout_of g.index).class this.source)) d kind i
      → Makes (layout_of g.index) kind this.source this.destination i g.arena arena g.map map
      → new ≡ record g { arena = arena; map = map; meshes = slice_set g.meshes place (record this { progress = Made (d + 1) }) }
      → IsPageHeap new.arena new.map new.index new.next_page new.meshes × IsStepped g new this.class (record { kind = kind; left = left })
  went_on arena map d left i kind new at left_is some step_at makes is =
      let goes = page_heap_goes _ _ _ _ _ _ _ _ _ _ _ _ _ runs.index runs.paged runs.found at left_is some step_at makes in
      let list = progress_set (table_in g) _ _ _ _ runs.paged.sound.meshes runs.paged.sound.one_a_class runs.at in
      let is' : new ≡ record g { arena = arena; map = map; meshes = with_progress g.meshes this (Made (d + 1)) }
      = is ∙ ap (λ (ms : List Mesh). record g { arena = arena; map = map; meshes = ms }) list in
      let effect = step_has_effect _ _ _ _ _ _ _ _ _ _ ((sides g place this runs).source) at step_at makes in
      rw is' (goes.paged, record { table = goes.stepped; kept = goes.kept; mesh = this; running = runs.found; effect = effect })

  -- the last step
  pub ended : (arena : Pages) (map : Entries) (index : Index) (d i : ℕ) (kind : StepKind) (a b : GroupEntry) (new : PageHeap) → this.progress ≡ Made d
      → d + 1 ≡ 3 * page_total (layout_of g.index) this.source + slots_of ((layout_of g.index).class this.source) + pages_of ((layout_of g.index).class this.source)
      → IsStepAt (page_total (layout_of g.index) this.source) (slots_of ((layout_of g.index).class this.source)) (pages_of ((layout_of g.index).class this.source)) d kind i
      → Makes (layout_of g.index) kind this.source this.destination i g.arena arena g.map map → Unites g.index index this a b
      → new ≡ record g { arena = arena; map = map; index = index; meshes = remove g.meshes place }
      → IsPageHeap new.arena new.map new.index new.next_page new.meshes × IsStepped g new this.class (record { kind = kind; left = 0 })
  ended arena map index d i kind a b new at last step_at makes unites is =
      let ends = page_heap_ends _ _ _ _ _ _ _ _ _ this _ a b runs.index runs.paged runs.found at last unites _ _ step_at makes in
      let list = without_at (table_in g) _ _ _ runs.paged.sound.meshes runs.paged.sound.one_a_class runs.at in
      let is' : new ≡ record g { arena = arena; map = map; index = index; meshes = without_mesh g.meshes this }
      = is ∙ ap (λ (ms : List Mesh). record g { arena = arena; map = map; index = index; meshes = ms }) list in
      let effect = step_has_effect _ _ _ _ _ _ _ _ _ _ ((sides g place this runs).source) at step_at makes in
      rw is' (ends.paged, record { table = ends.stepped; kept = ends.kept; mesh = this; running = runs.found; effect = effect })

  -- an unprotect of a cancelled mesh that isn't the last
  unwound_on : (map : Entries) (q u left : ℕ) (new : PageHeap) → this.progress ≡ Unwinding q u → left + (u + 1) ≡ q → 0 < left
      → u < page_total (layout_of g.index) this.source → Protects g.map map (virtual_page (layout_of g.index) this.source u) (prot_of false)
      → new ≡ record g { map = map; meshes = slice_set g.meshes place (record this { progress = Unwinding q (u + 1) }) }
      → IsPageHeap new.arena new.map new.index new.next_page new.meshes × IsStepped g new this.class (record { kind = Unprotect; left = left })
  unwound_on map q u left new at left_is some below protects is =
      let goes = unwind_goes _ _ _ _ _ _ _ this _ _ runs.index runs.paged runs.found at protects _ left_is some in
      let list = progress_set (table_in g) _ _ _ _ runs.paged.sound.meshes runs.paged.sound.one_a_class runs.at in
      let is' : new ≡ record g { map = map; meshes = with_progress g.meshes this (Unwinding q (u + 1)) }
      = is ∙ ap (λ (ms : List Mesh). record g { map = map; meshes = ms }) list in
      let effect = unwinding_has_effect _ _ _ _ _ _ _ _ (sides g place this runs).source at below protects in
      rw is' (goes.paged, record { table = goes.stepped; kept = goes.kept; mesh = this; running = runs.found; effect = effect })

  -- the last one
  unwound_end : (map : Entries) (index : Index) (q u : ℕ) (new : PageHeap) → this.progress ≡ Unwinding q u → u + 1 ≡ q
      → u < page_total (layout_of g.index) this.source → Protects g.map map (virtual_page (layout_of g.index) this.source u) (prot_of false)
      → OpensBoth g.index index this.source this.destination → new ≡ record g { map = map; index = index; meshes = remove g.meshes place }
      → IsPageHeap new.arena new.map new.index new.next_page new.meshes × IsStepped g new this.class (record { kind = Unprotect; left = 0 })
  unwound_end map index q u new at last below protects opens is =
      let ends = unwind_ends _ _ _ _ _ _ _ _ _ _ runs.index runs.paged runs.found at protects _ last (reopened _ _ this opens) in
      let list = without_at (table_in g) _ _ _ runs.paged.sound.meshes runs.paged.sound.one_a_class runs.at in
      let is' : new ≡ record g { map = map; index = index; meshes = without_mesh g.meshes this }
      = is ∙ ap (λ (ms : List Mesh). record g { map = map; index = index; meshes = ms }) list in
      let effect = unwinding_has_effect _ _ _ _ _ _ _ _ (sides g place this runs).source at below protects in
      rw is' (ends.paged, record { table = ends.stepped; kept = ends.kept; mesh = this; running = runs.found; effect = effect })

  -- an unprotect of a cancelled mesh
  pub unwound : (map : Entries) (index : Index) (list : List Mesh) (q u left : ℕ) (new : PageHeap) → this.progress ≡ Unwinding q u → left + (u + 1) ≡ q
      → u < page_total (layout_of g.index) this.source → Protects g.map map (virtual_page (layout_of g.index) this.source u) (prot_of false)
      → IsWoundBack g.index index g.meshes list place this q (u + 1) → new ≡ record g { map = map; index = index; meshes = list }
      → IsPageHeap new.arena new.map new.index new.next_page new.meshes × IsStepped g new this.class (record { kind = Unprotect; left = left })
  unwound map index list q u left new at left_is below protects back is = elim (eqb_tells (u + 1) q) [
    | inl last ↦
        let end = back.over last.1 in
        let none : left ≡ 0 = (let e = last.1 in omega (arith, e, left_is)) in
        rw none (unwound_end map index q u new at last.1 below protects end.0
        (is ∙ ap (λ (ms : List Mesh). record g { map = map; index = index; meshes = ms }) end.1))
    | inr early ↦
        let on = back.more early.1 in
        unwound_on map q u left new at left_is (let e = early.1 in omega (arith, e, left_is)) below protects (is
        ∙ ap (λ (i : Index). record g { map = map; index = i; meshes = list }) on.0
        ∙ ap (λ (ms : List Mesh). record g { map = map; meshes = ms }) on.1)
  ]

  -- a cancel of a mesh that had protected pages
  held : (d q : ℕ) (new : PageHeap) → this.progress ≡ Made d → 0 < q → min d (page_total (layout_of g.index) this.source) ≡ q
      → d ≤ page_total (layout_of g.index) this.source + slots_of ((layout_of g.index).class this.source)
      → new ≡ record g { meshes = slice_set g.meshes place (record this { progress = Unwinding q 0 }) }
      → IsPageHeap new.arena new.map new.index new.next_page new.meshes × IsCancelled g new this.class q
  held d q new at some least early is =
      let some_made : 0 < d = omega (arith, some, least) in
      let holds = subst (λ (n : ℕ). Holds g.arena g.map g.index g.next_page g.meshes (λ mesh. nat_eq mesh.class this.class) this (Unwinding n 0) n) least
      (cancel_holds g.arena g.map g.index g.next_page g.meshes (λ mesh. nat_eq mesh.class this.class) this d runs.index runs.paged runs.found at some_made early) in
      let list = progress_set (table_in g) g.meshes place this (Unwinding q 0) runs.paged.sound.meshes runs.paged.sound.one_a_class runs.at in
      let is' : new ≡ record g { meshes = with_progress g.meshes this (Unwinding q 0) } = is ∙ ap (λ (ms : List Mesh). record g { meshes = ms }) list in
      rw is' (holds.paged, record { table = holds.cancelled; arena = refl; map = refl })

  -- a cancel of one that had protected none
  stopped : (index : Index) (d : ℕ) (new : PageHeap) → this.progress ≡ Made d → d ≡ 0 → OpensBoth g.index index this.source this.destination
      → new ≡ record g { index = index; meshes = remove g.meshes place }
      → IsPageHeap new.arena new.map new.index new.next_page new.meshes × IsCancelled g new this.class 0
  stopped index d new at none opens is =
      let stops = cancel_stops _ _ _ _ _ _ _ _ runs.index runs.paged runs.found at _ none (reopened _ _ this opens) in
      let list = without_at (table_in g) _ _ _ runs.paged.sound.meshes runs.paged.sound.one_a_class runs.at in
      let is' : new ≡ record g { index = index; meshes = without_mesh g.meshes this } = is ∙ ap (λ (ms : List Mesh). record g { index = index; meshes = ms }) list in
      rw is' (stops.paged, record { table = stops.cancelled; arena = refl; map = refl })

  -- a cancel before the first remap
  pub cancelled : (index : Index) (list : List Mesh) (d q : ℕ) (new : PageHeap) → this.progress ≡ Made d → min d (page_total (layout_of g.index) this.source) ≡ q
      → d ≤ page_total (layout_of g.index) this.source + slots_of ((layout_of g.index).class this.source) → 0 < page_total (layout_of g.index) this.source
      → IsWoundBack g.index index g.meshes list place this q 0 → new ≡ record g { index = index; meshes = list }
      → IsPageHeap new.arena new.map new.index new.next_page new.meshes × IsCancelled g new this.class q
  cancelled index list d q new at least early some back is = elim (eqb_tells 0 q) [
    | inl none ↦
        let end = back.over none.1 in
        subst (λ (n : ℕ). IsPageHeap new.arena new.map new.index new.next_page new.meshes × IsCancelled g new this.class n) none.1
        (stopped _ _ _ at (let e = none.1 in omega (arith, e, least, some)) end.0 (is ∙ ap (λ (ms : List Mesh). record g { index = index; meshes = ms }) end.1))
    | inr more ↦
        let on = back.more more.1 in
        held _ _ _ at (let e = more.1 in omega (arith, e)) least early (is ∙ ap (λ (i : Index). record g { index = i; meshes = list }) on.0
        ∙ ap (λ (ms : List Mesh). record g { meshes = ms }) on.1)
  ]
