-- What a heap means once its page heap was meshed.
use Rattle.std.proofs.Common.{◌≡◌, ℕ, suc, ◌+◌, ◌-◌, ◌<◌, false, nat_eq, find, slice_index, List, Some, Result, Ok, Err, IfOk, IfErr, IsOk, ap, refl, sym, subst, ◌∙◌, arith}
use Rattle.std.specs.Option.{option_map}
use Rattle.mesh_class.specs.Classes.{pages_of}
use Rattle.mesh_page_heap.proofs.Groups.{IsEntry, table_entry}
use Rattle.mesh_page_heap.proofs.MadeSteps.{pages_counted}
use Rattle.mesh_page_heap.proofs.StepEffects.{page_is}
use Rattle.mesh_page_heap.proofs.WholeSteps.{IsWholeBy, whole_by_class}
use Rattle.mesh_page_heap.specs.Layout.{page_total, virtual_page}
use Rattle.mesh_page_heap.proofs.Heaps.{transition_means, transition_tied}
use Rattle.mesh_page_heap.specs.Indexes.{layout_of}
use Rattle.mesh_page_heap.specs.StepChanges.{Keeps}
use Rattle.model_heap.proofs.TableChanges.{begin_sound, cancel_sound, step_sound, sweep_sound}
use Rattle.model_heap.proofs.TiedTables.{begin_tied, cancel_tied, step_tied, sweep_tied}
use Rattle.model_heap.specs.Mesh.{Stepped, begin, cancel, mesh_in, page_count, step, virtual_pages}
use Rattle.model_heap.specs.MeshLaws.{steps_of_class}
use Rattle.model_words.specs.Words.{◌>>=◌}
use Rattle.model_heap.specs.Sound.{IsSound, IsTied}
use Rattle.model_heap.specs.Table.{Counted, Group, Table, group_of, has_number, sweep}
use Rattle.model_words.specs.declared.refusals.Refusal.{Refusal}
use Rattle.mesh_pagemap.specs.Entries.{is_mapped}
use Rattle.mesh_spans.specs.Index.{IsIndex}
use Rattle.mesh_page_heap.proofs.MayBegin.{busy_tells}
use Rattle.mesh_steps.specs.Heap.{Heap, IsHeap, plain_of, table_of}
use Rattle.mesh_steps.specs.HeapMeshes.{IsAnswered, IsMeshBegun, IsMeshCancelled, IsMeshed, IsOnItsWay, IsStepMade, IsSwept, KeepsMeaning, MeansTheSame}
use Rattle.mesh_page_heap.specs.Meshes.{IsBegun, IsCancelled, IsStepped, busy_by}
use Rattle.mesh_page_heap.specs.PageHeap.{PageHeap, table_in}
use Rattle.mesh_page_heap.specs.Sweeps.{HasGone}
use Rattle.model_words.specs.declared.answers.StepDone.{StepDone}
use Rattle.mesh_page_heap.specs.declared.busy.Busy.{Busy}

-- the heap of a page heap
abbrev heap_of : PageHeap → ℕ → Heap
heap_of pages next = record { pages = pages; next_serial = next }

-- a page heap whose table is sound and tied to what the heap meant, with the bytes of its objects, stands for the same
module _ (pages new : PageHeap) (next : ℕ) (heap : IsHeap (heap_of pages next)) (sound : IsSound (table_in new))
    (kept : Keeps (layout_of pages.index) pages.arena new.arena pages.map new.map)
    (tied : IsTied (plain_of (heap_of pages next)) (table_in new)) where
  moved_means : MeansTheSame (heap_of pages next) (heap_of new next)
  moved_means = transition_means next pages.index (table_in pages) (table_in new) pages.map new.map pages.arena new.arena heap.sound sound refl kept heap.tied tied

  moved_heap : IsHeap (heap_of new next)
  moved_heap = record {
    sound = sound;
    tied = transition_tied next pages.index (table_in pages) (table_in new) pages.map new.map pages.arena new.arena heap.sound sound refl kept heap.tied tied;
  }

  pub moved : IsHeap (heap_of new next) × KeepsMeaning (heap_of pages next) (heap_of new next)
  moved = (moved_heap, record { memory = moved_means; serial = refl; pages = kept.same_length })

-- where arena and page map stay so do all bytes
same_kept : (pages new : PageHeap) → new.arena ≡ pages.arena → new.map ≡ pages.map → Keeps (layout_of pages.index) pages.arena new.arena pages.map new.map
same_kept pages new arena map = grind arith

-- what a call of a mesher leaves: a heap, and its answer
pub record Leaves {X Y : Type 0} (pages new : PageHeap) (next : ℕ) (wanted : Result Y Refusal) (r : Result X Refusal) (IsMade : X → Type 0) : Type 0 where
  pub heap : IsHeap (heap_of new next)
  pub answered : IsAnswered KeepsMeaning (heap_of pages next) (heap_of new next) wanted r IsMade

module _ (pages new : PageHeap) (next : ℕ) (heap : IsHeap (heap_of pages next)) where
  -- a call that tells of the page heap what means as much of the heap; a refusal leaves it
  leaves : {X Y : Type 0} (wanted : Result Y Refusal) (r : Result X Refusal) (P IsMade : X → Type 0) → IfOk r P → IfErr r (λ e. (wanted ≡ Err e) × (new ≡ pages))
      → ((x : X) → P x → (IsHeap (heap_of new next) × KeepsMeaning (heap_of pages next) (heap_of new next)) × IsMade x)
      → Leaves pages new next wanted r IsMade
  leaves wanted (Ok x) P IsMade ok err means = let all = means x ok in record { heap = all.0.0; answered = record { made = all.1; refused = err; kept = all.0.1 } }
  leaves wanted (Err e) P IsMade ok err means = subst (λ (g : PageHeap). Leaves pages g next wanted (Err e) IsMade) (sym err.1)
      (record { heap = heap; answered = record { made = ok; refused = (err.0, refl); kept = record { memory = λ roots. refl; serial = refl; pages = refl } } })

  -- a heap in which a mesh began
  pub begun_leaves : (busy : Busy) (source destination : ℕ) (r : Result ℕ Refusal) → IfOk r (IsBegun busy pages new source destination)
      → IfErr r (λ refusal. (begin (busy_by busy) (table_in pages) source destination ≡ Err refusal) × (new ≡ pages))
      → Leaves pages new next (begin (busy_by busy) (table_in pages) source destination) r (IsMeshBegun (busy_by busy) (heap_of pages next) (heap_of new next) source destination)
  begun_leaves busy source destination r ok err =
      leaves (begin (busy_by busy) (table_in pages) source destination) r (IsBegun busy pages new source destination) _ ok err (λ left is.
      let x : Counted = record { count = left; table = table_in new } in
      let means = moved pages new next heap
      (begin_sound (busy_by busy) (table_in pages) source destination x (busy_tells busy (table_in pages)) heap.sound is.table) (same_kept pages new is.arena is.map)
      (begin_tied (plain_of (heap_of pages next)) (busy_by busy) (table_in pages) source destination x heap.tied is.table) in
      (means, record { table = is.table; arena = is.arena; map = is.map }))

  -- one of which a mesh made a step
  pub stepped_leaves : (class : ℕ) (r : Result StepDone Refusal) → IfOk r (IsStepped pages new class)
      → IfErr r (λ refusal. (step (table_in pages) (mesh_in (table_in pages) class) ≡ Err refusal) × (new ≡ pages))
      → Leaves pages new next (step (table_in pages) (mesh_in (table_in pages) class)) r (IsStepMade (heap_of pages next) (heap_of new next) class)
  stepped_leaves class r ok err =
      leaves (step (table_in pages) (mesh_in (table_in pages) class)) r (IsStepped pages new class) _ ok err (λ done is.
      let x : Stepped = record { kind = done.kind; left = done.left; table = table_in new } in
      let sound = step_sound (table_in pages) (λ mesh. nat_eq mesh.class class) x heap.sound is.table in
      let tied = step_tied (plain_of (heap_of pages next)) (table_in pages) (λ mesh. nat_eq mesh.class class) x heap.sound heap.tied is.table in
      (moved pages new next heap sound is.kept tied, record { table = is.table; mesh = is.mesh; running = is.running; effect = is.effect }))

  -- one of which a mesh was cancelled
  pub cancelled_leaves : (class : ℕ) (r : Result ℕ Refusal) → IfOk r (IsCancelled pages new class)
      → IfErr r (λ refusal. (cancel (table_in pages) (mesh_in (table_in pages) class) ≡ Err refusal) × (new ≡ pages))
      → Leaves pages new next (cancel (table_in pages) (mesh_in (table_in pages) class)) r (IsMeshCancelled (heap_of pages next) (heap_of new next) class)
  cancelled_leaves class r ok err =
      leaves (cancel (table_in pages) (mesh_in (table_in pages) class)) r (IsCancelled pages new class) _ ok err (λ left is.
      let x : Counted = record { count = left; table = table_in new } in
      let means = moved pages new next heap (cancel_sound _ _ _ heap.sound is.table) (same_kept pages new is.arena is.map)
      (cancel_tied _ _ _ _ heap.tied is.table) in
      (means, record { table = is.table; arena = is.arena; map = is.map }))

  -- one of which a group was swept
  pub swept_leaves : (n : ℕ) (r : Result ℕ Refusal) → IsIndex pages.index.spans pages.index.groups → IfOk r (HasGone pages new n)
      → IfErr r (λ refusal. (sweep (table_in pages) n ≡ Err refusal) × (new ≡ pages))
      → Leaves pages new next (sweep (table_in pages) n) r (IsSwept (heap_of pages next) (heap_of new next) n)
  swept_leaves n r index ok err =
      leaves (sweep (table_in pages) n) r (HasGone pages new n) _ ok err (λ count is.
      let x : Counted = record { count = count; table = table_in new } in
      let tied = sweep_tied (plain_of (heap_of pages next)) (table_in pages) n x heap.tied is.table in (
        moved pages new next heap (sweep_sound (table_in pages) n x heap.sound is.table) is.kept tied,
        record {
          table = is.table;
          unmapped = λ g i there below.
              let e : IsEntry pages.index n g = table_entry pages.index n g there in
              let same = ap page_count e.same in
              let within : i < page_total (layout_of pages.index) n = omega (arith, below, pages_counted pages.index n e.entry e.there, same) in
              subst (λ (v : ℕ). is_mapped new.map v ≡ false)
              (sym (ap (λ (x : Group). slice_index (virtual_pages x) i) e.same ∙ page_is pages.index n i e.entry e.there within))
              (is.unmapped i (virtual_page (layout_of pages.index) n i) (record { within = within; at = refl }));
        },
      ))

-- what is kept twice is kept
pub kept_on : (old now new : Heap) → KeepsMeaning old now → KeepsMeaning now new → KeepsMeaning old new
kept_on old now new was is = record {
  memory = λ roots. is.memory roots ∙ was.memory roots;
  serial = is.serial ∙ was.serial;
  pages = is.pages ∙ was.pages;
}

-- a step of a mesh that has more
pub gone_on : (old now new : Heap) (class steps made : ℕ) (r : Result StepDone Refusal) → IsOk (steps_of_class class steps (table_of old)) → made < steps
    → IsOnItsWay old now class steps made
    → IsAnswered KeepsMeaning now new (step (table_of now) (mesh_in (table_of now) class)) r (IsStepMade now new class)
    → IsOnItsWay old new class steps (made + 1)
gone_on old now new class steps made (Ok done) whole below way is = record {
  few = omega (arith, below);
  table =
      let next : steps - made ≡ suc (steps - (made + 1)) = omega (arith, below) in
      sym (ap (λ (r : Result Stepped Refusal). r >>= λ x. steps_of_class class (steps - (made + 1)) x.table) is.made.table)
      ∙ sym (ap (λ (n : ℕ). steps_of_class class n (table_of now)) next) ∙ way.table;
  kept = kept_on old now new way.kept is.kept;
}
gone_on old now new class steps made (Err refusal) whole below way is = absurd (
    let next : steps - made ≡ suc (steps - (made + 1)) = omega (arith, below) in
    let stuck : steps_of_class class (suc (steps - (made + 1))) (table_of now) ≡ Err refusal
    = ap (λ (r : Result Stepped Refusal). r >>= λ x. steps_of_class class (steps - (made + 1)) x.table) is.refused.0 in
    let refused : steps_of_class class steps (table_of old) ≡ Err refusal
    = sym way.table ∙ ap (λ (n : ℕ). steps_of_class class n (table_of now)) next ∙ stuck in
    refuted (steps_of_class class steps (table_of old)) refusal refused whole)
  where
    refuted : (r : Result Table Refusal) (refusal : Refusal) → r ≡ Err refusal → IsOk r → ⊥
    refuted (Ok t) refusal is whole = cc is
    refuted (Err e) refusal is whole = cc whole

-- what a mesh that began in a heap comes to
module _ (busy : Busy) (old new : Heap) (source destination left class : ℕ) (heap : IsHeap old)
    (begun : IsMeshBegun (busy_by busy) old new source destination left)
    (class_is : Some class ≡ option_map (λ g. g.class) (group_of (table_of new) source)) where
  all : IsWholeBy (busy_by busy) (table_of old) source destination (record { count = left; table = table_of new })
  all = whole_by_class _ _ _ _ _ (busy_tells _ _) heap.sound begun.table

  same_class : class ≡ all.source.class
  same_class = cc (class_is ∙ ap (option_map (λ g. g.class)) (ap (λ (gs : List Group). find (has_number source) gs) all.groups ∙ all.there))

  pub has_steps : IsOk (steps_of_class class left (table_of new))
  has_steps = rw (same_class, all.steps) refl

  -- once all its steps are made
  pub meshed : (end : Heap) (pages : ℕ) → steps_of_class class left (table_of new) ≡ Ok (table_of end) → pages ≡ pages_of class
      → IsMeshed (busy_by busy) old end source destination pages
  meshed end pages steps count =
      let ended : all.ended ≡ table_of end = cc (sym all.steps ∙ ap (λ (c : ℕ). steps_of_class c left (table_of new)) (sym same_class) ∙ steps) in
      record { table = all.whole ∙ both (pages_of all.source.class) pages all.ended (table_of end) (ap pages_of (sym same_class) ∙ sym count) ended }
    where
      both : (n n' : ℕ) (t t' : Table) → n ≡ n' → t ≡ t'
          → ◌≡◌ {A = Result Counted Refusal} (Ok (record { count = n; table = t })) (Ok (record { count = n'; table = t' }))
      both n n' t t' count table = rw (count, table) refl
