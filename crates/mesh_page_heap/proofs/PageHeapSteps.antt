-- What a page heap's invariant says of layout and stages, and of groups once their mesh has ended.
use Rattle.std.proofs.lemmas.Bool.{cases_Bool}
use Rattle.std.proofs.Common.{◌≡◌, ◌≢◌, ℕ, ◌≤◌, true, false, not, nat_eq, List, Some, ap, refl, sym, ◌∙◌, arith, inl, inr}
use Rattle.std.specs.List.{list_any}
use Rattle.std.proofs.lemmas.Bool.Decides.{eqb_tells}
use Rattle.mesh_arena.specs.Pages.{Pages}
use Rattle.model_heap.proofs.ListPlaces.{any_passes}
use Rattle.model_heap.proofs.MeshLists.{mesh_found, meshes_filtered, without_fewer}
use Rattle.model_heap.proofs.TableChanges.{one_group}
use Rattle.model_heap.specs.Mesh.{is_mesh, without_mesh}
use Rattle.model_heap.specs.Sound.{IsSound, IsSoundMesh, meshes_of}
use Rattle.model_heap.specs.Table.{Group, Mesh, Table, group_of, takes_part}
use Rattle.mesh_pagemap.specs.Entries.{Entries}
use Rattle.mesh_spans.specs.Groups.{is_closed}
use Rattle.mesh_spans.specs.Index.{Index, IsIndex}
use Rattle.mesh_page_heap.specs.PageHeapInvariant.{IsPageHeap}
use Rattle.mesh_page_heap.specs.Indexes.{layout_of, table_with}
use Rattle.mesh_page_heap.specs.Layout.{IsOrderly}
use Rattle.mesh_page_heap.specs.MeshLayouts.{mesh_from, stage_of}
use Rattle.mesh_page_heap.proofs.Flags.{flags_without}
use Rattle.mesh_page_heap.proofs.MeshList.{counted, listed_sound}
use Rattle.mesh_page_heap.proofs.Orderly.{orderly}

-- layout and stages of a page heap are in order
pub page_heap_orderly : (arena : Pages) (m : Entries) (index : Index) (next : ℕ) (ms : List Mesh) → IsIndex index.spans index.groups → IsPageHeap arena m index next ms
    → IsOrderly (layout_of index) (stage_of (layout_of index) ms)
page_heap_orderly arena m index next ms sound paged = orderly index (table_with arena index next ms) sound paged.sound refl

-- a group that takes part in a mesh is of its class
part_class : (t : Table) (x : Mesh) (n : ℕ) → IsSoundMesh t x → takes_part n x ≡ true → (g : Group) × (group_of t n ≡ Some g) × (g.class ≡ x.class)
part_class t x n is part = grind arith

-- a group that takes part in a mesh takes part in no other
part_once : (t : Table) (this : Mesh) (n : ℕ) → IsSound t → mesh_from this.source t.meshes ≡ Some this → takes_part n this ≡ true
    → list_any (takes_part n) (without_mesh t.meshes this) ≡ false
part_once t this n sound from part = elim (cases_Bool (list_any (takes_part n) (without_mesh t.meshes this))) [
  | inr none ↦ none
  | inl some ↦ absurd (
      let rest : List Mesh = without_mesh t.meshes this in
      let one = any_passes Mesh (takes_part n) rest some in
      let sound' = meshes_filtered t (λ m. not (is_mesh this m)) t.meshes sound.meshes in
      let mine = part_class t this n (mesh_found t (λ m. nat_eq m.source this.source) t.meshes this from sound.meshes) part in
      let its = part_class t one.x n (listed_sound t rest one.i one.x sound' one.there) one.passes in
      let class : one.x.class ≡ this.class = sym its.2 ∙ ap (λ (g : Group). g.class) (one_group t n its.0 mine.0 its.1 mine.1) ∙ mine.2 in
      let count : 1 ≤ meshes_of this.class rest = rw class at (counted rest one.i one.x one.there) in
      omega (arith, count, without_fewer this.class (λ m. nat_eq m.source this.source) t.meshes this from refl, sound.one_a_class this.class))
]

-- once a mesh has ended its two groups are open, and every other flag is as it was
pub flags_ended : (t : Table) (old new : Index) (this : Mesh) → IsSound t → mesh_from this.source t.meshes ≡ Some this
    → ((n : ℕ) → is_closed old n ≡ list_any (takes_part n) t.meshes)
    → ((n : ℕ) → n ≢ this.source → n ≢ this.destination → is_closed new n ≡ is_closed old n) → is_closed new this.source ≡ false
    → is_closed new this.destination ≡ false → (n : ℕ) → is_closed new n ≡ list_any (takes_part n) (without_mesh t.meshes this)
flags_ended t old new this sound from flags closed closed_s closed_d n = elim (eqb_tells this.source n) [
  | inl s ↦ sym (ap (is_closed new) s.1) ∙ closed_s ∙ sym (part_once t this n sound from (rw s.0 refl))
  | inr not_s ↦ elim (eqb_tells this.destination n) [
    | inl d ↦ sym (ap (is_closed new) d.1) ∙ closed_d ∙ sym (part_once t this n sound from (rw (not_s.0, d.0) refl))
    | inr not_d ↦ closed n (λ e. not_s.1 (sym e)) (λ e. not_d.1 (sym e)) ∙ flags n ∙ sym (flags_without t.meshes this n (rw (not_s.0, not_d.0) refl))
  ]
]
