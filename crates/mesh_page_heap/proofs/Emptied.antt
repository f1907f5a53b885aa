-- An empty group taken out of a page heap.
use Rattle.std.proofs.Common.{◌≡◌, ℕ, ◌+◌, ◌<◌, true, false, not, nat_eq, count_by, filter, is_some, length, slice_index, slice_index_or, slice_set, List, Option, Some, None, Ok, Err, ap, subst, refl, sym, ◌∙◌, arith}
use Rattle.std.proofs.lemmas.Bool.{eqb-false, eqb-true, lt-ltb}
use Rattle.std.proofs.lemmas.List.{get_or-set_other, get_or-set_same, get_or_past}
use Rattle.std.proofs.lemmas.Option.{slice_get-get_or}
use Rattle.mesh_arena.specs.Pages.{IsTaken, Pages, free_count}
use Rattle.mesh_class.specs.Classes.{pages_of}
use Rattle.mesh_page_heap.proofs.Changes.{open_calm}
use Rattle.mesh_page_heap.proofs.Groups.{entry_in_table, none_in_table}
use Rattle.mesh_page_heap.proofs.Loops.{gives_group}
use Rattle.mesh_page_heap.proofs.PageHeapChanges.{page_heap_sweep}
use Rattle.mesh_page_heap.proofs.PageHeapSteps.{page_heap_orderly}
use Rattle.mesh_page_heap.specs.Growth.{AreTaken, GivesFirst}
use Rattle.mesh_page_heap.specs.Indexes.{class_in, layout_of, members_in, pages_in, slots_in, table_with}
use Rattle.mesh_page_heap.specs.Layout.{IsHeldBy, IsOrderly, Stage}
use Rattle.mesh_page_heap.specs.MeshLayouts.{stage_of}
use Rattle.mesh_page_heap.specs.PageHeapInvariant.{IsPageHeap}
use Rattle.mesh_page_heap.specs.StepChanges.{UnmapsGroup}
use Rattle.model_heap.proofs.TableChanges.{sweep_sound}
use Rattle.model_heap.proofs.TiedTables.{filled_counted}
use Rattle.model_heap.specs.Table.{Counted, Slot, group_of, has_number, is_meshing, sweep}
use Rattle.model_words.specs.declared.refusals.Refusal.TheVariants.{Busy, NoGroup, NotEmpty}
use Rattle.mesh_pagemap.specs.Entries.{Entries}
use Rattle.mesh_spans.specs.Groups.{groups_of, is_in_mesh, table_group}
use Rattle.mesh_spans.specs.Index.{GroupEntry, Index, IsIndex, SpanEntry, group_at}
use Rattle.mesh_page_heap.proofs.GroupNumbers.{group_below}
use Rattle.mesh_page_heap.specs.PageHeap.{PageHeap, table_in}
use Rattle.mesh_page_heap.specs.Sweeps.{CanUnmap, HasGone}

-- there is no group to sweep
pub sweeps_none : (g : PageHeap) (n : ℕ) → group_at g.index.groups n ≡ None → sweep (table_in g) n ≡ Err NoGroup
sweeps_none g n none = rw (none_in_table g.index n none) refl

module _ (g : PageHeap) (n : ℕ) (a : GroupEntry) (paged : IsPageHeap g.arena g.map g.index g.next_page g.meshes) (there : group_at g.index.groups n ≡ Some a) where
  found : group_of (table_in g) n ≡ Some (table_group g.index.spans n a)
  found = entry_in_table g.index n a there

  -- whether it is in a mesh is its flag
  meshing : is_meshing (table_in g) n ≡ a.in_mesh
  meshing = sym (paged.flags n) ∙ ap is_in_mesh there

  pub sweeps_busy : a.in_mesh ≡ true → sweep (table_in g) n ≡ Err Busy
  sweeps_busy busy = rw (found, meshing ∙ busy) refl

  pub sweeps_filled : a.in_mesh ≡ false → nat_eq (count_by is_some a.slots) 0 ≡ false → sweep (table_in g) n ≡ Err NotEmpty
  sweeps_filled calm filled =
      rw (found, meshing ∙ calm, lt-ltb 0 (count_by is_some a.slots) (omega (arith, eqb-false (count_by is_some a.slots) 0 filled))) refl

  -- the table without it
  gives : (arena : Pages) (index : Index) → a.in_mesh ≡ false → nat_eq (count_by is_some a.slots) 0 ≡ true
      → free_count arena ≡ free_count g.arena + pages_of a.class → length index.spans ≡ length g.index.spans
      → groups_of index ≡ filter (λ x. not (has_number n x)) (groups_of g.index)
      → sweep (table_in g) n ≡ Ok (record { count = pages_of a.class; table = table_with arena index g.next_page g.meshes })
  gives arena index calm empty free spans groups = grind (arith, found)

-- in a group without an object each slot is empty
none_counted : (slots : List (Option Slot)) (k : ℕ) (slot : Slot) → count_by is_some slots ≡ 0 → slice_index_or slots k None ≡ Some slot → ⊥
none_counted slots k slot none filled = grind (arith, filled_counted, slice_get-get_or, get_or_past)

-- a group of a page heap that is in no mesh is idle
module _ (g : PageHeap) (n : ℕ) (a : GroupEntry) (sound : IsIndex g.index.spans g.index.groups) (paged : IsPageHeap g.arena g.map g.index g.next_page g.meshes)
    (there : group_at g.index.groups n ≡ Some a) where
  orderly : IsOrderly (layout_of g.index) (stage_of (layout_of g.index) g.meshes)
  orderly = page_heap_orderly g.arena g.map g.index g.next_page g.meshes sound paged

  some : 0 < (layout_of g.index).members n
  some = subst (λ (o : Option GroupEntry). 0 < length (members_in o)) (sym there) (sound.each n a there).some_member

  -- its pages can be unmapped
  pub can_unmap : CanUnmap (layout_of g.index) g.map n
  can_unmap = record {
    group = some;
    mapped = λ i v page. (paged.laid_out.each n i v page).mapped;
    once = λ i j v page page'. (orderly.once n i n j v page page').1;
  }

  -- and given back where it is in no mesh
  pub can_give : a.in_mesh ≡ false → AreTaken g.arena a.pages
  can_give calm = record {
    each = λ k below. subst (λ (p : ℕ). IsTaken g.arena p) (at k) (paged.laid_out.taken n k (held k below));
    apart = λ k l below below' other same. other (paged.laid_out.apart n k n l (held k below) (held l below') (at k ∙ same ∙ sym (at l))).1;
  }
    where
      at : (k : ℕ) → (layout_of g.index).page n k ≡ slice_index a.pages k
      at k = ap (λ (o : Option GroupEntry). slice_index (pages_in o) k) there

      held : (k : ℕ) → k < length a.pages → IsHeldBy (layout_of g.index) (stage_of (layout_of g.index) g.meshes) n k
      held k below =
          let idle_now = orderly.idle n (open_calm (layout_of g.index) g.meshes n (sym (paged.flags n) ∙ ap is_in_mesh there ∙ calm)).0 in
          record {
            group = some;
            within = omega (arith, below, ap pages_of (ap class_in there), (sound.each n a there).pages);
            kept = let none : (stage_of (layout_of g.index) g.meshes n).released ≡ 0 = ap (λ (c : Stage). c.released) idle_now in omega (arith, none);
          }

-- what is left once its pages were unmapped and given back
pub swept : (g new : PageHeap) (n : ℕ) (a : GroupEntry) (arena : Pages) (map : Entries) (index : Index) → IsIndex g.index.spans g.index.groups
    → IsPageHeap g.arena g.map g.index g.next_page g.meshes → group_at g.index.groups n ≡ Some a → a.in_mesh ≡ false
    → nat_eq (count_by is_some a.slots) 0 ≡ true → GivesFirst g.arena arena a.pages (length a.pages) → UnmapsGroup (layout_of g.index) g.map map n
    → index.spans ≡ g.index.spans → index.groups ≡ slice_set g.index.groups n None
    → groups_of index ≡ filter (λ x. not (has_number n x)) (groups_of g.index)
    → new ≡ record g { arena = arena; map = map; index = index }
    → IsPageHeap new.arena new.map new.index new.next_page new.meshes × HasGone g new n (pages_of a.class)
swept g new n a arena map index sound paged there calm empty gives_pages unmaps spans groups table is =
    let entry = sound.each n a there in
    let pages = entry.pages in
    let more = gives_pages.more in
    let free : free_count arena ≡ free_count g.arena + pages_of a.class = omega (arith, more, pages) in
    let told = gives g _ a paged there _ _ calm empty free (ap (λ (xs : List SpanEntry). length xs) spans) table in
    let x : Counted = record { count = pages_of a.class; table = table_with arena index g.next_page g.meshes } in
    let members = subst (λ (o : Option GroupEntry). 0 < length (members_in o)) (sym there) entry.some_member in
    let zeroth = eqb-true (count_by is_some a.slots) 0 empty in
    let both = page_heap_sweep _ _ _ _ _ _ _ _ _ sound paged (record {
      gone = ap (λ (gs : List (Option GroupEntry)). group_at gs n) groups ∙ get_or-set_same g.index.groups n None None (group_below _ _ _ there);
      others = λ m other. ap (λ (gs : List (Option GroupEntry)). group_at gs m) groups ∙ get_or-set_other g.index.groups n m None None other;
      spans = spans;
    })
    members (λ k slot filled. none_counted a.slots k _ zeroth (sym (ap (λ (o : Option GroupEntry). slice_index_or (slots_in o) k None) there) ∙ filled))
    (ap is_in_mesh there ∙ calm) unmaps (gives_group _ _ _ _ _ (omega (arith, pages, ap pages_of (ap class_in there)))
    (λ j. ap (λ (o : Option GroupEntry). slice_index (pages_in o) j) there) gives_pages) (sweep_sound _ _ _ paged.sound told) in
    rw is (both.0, record { table = told; kept = both.1; unmapped = unmaps.gone })
