-- Where index and table are sound, the layout is in order.
use Rattle.std.proofs.lemmas.Bool.{eqb-false, eqb-true}
use Rattle.std.proofs.Common.{◌≡◌, ℕ, suc, ◌+◌, ◌*◌, ◌<◌, ◌≤◌, nat_eq, map, List, [], ◌∷◌, Option, Some, None, length, slice_index, slice_index_or, ap, refl, sym, ◌∙◌, arith, ◌⊎◌, inl, inr}
use Rattle.std.proofs.lemmas.Bool.Decides.{eqb_tells}
use Rattle.std.proofs.lemmas.List.{get_or-map, length-map}
use Rattle.std.proofs.lemmas.Option.{slice_get-get_or}
use Rattle.std.proofs.Math.Nat.{mul-le-mul_right}
use Rattle.mesh_class.specs.Classes.{IsClass, pages_of, slots_of}
use Rattle.model_heap.proofs.GroupPages.{found_sound, page_of_one, page_once}
use Rattle.model_heap.proofs.ListPlaces.{found_passes}
use Rattle.model_heap.proofs.MeshLists.{mesh_found}
use Rattle.model_heap.specs.Mesh.{page_count, virtual_pages}
use Rattle.model_heap.specs.Sound.{IsSound, IsSoundMesh, IsWithinSteps, times_in}
use Rattle.model_heap.specs.Table.{Group, Made, Mesh, Progress, Slot, Table, Unwinding, group_of, has_number}
use Rattle.mesh_spans.specs.Groups.{first_of, groups_of, table_group}
use Rattle.mesh_spans.specs.Index.{GroupEntry, Index, IsIndex, group_at, span_at}
use Rattle.mesh_spans.proofs.IndexLemmas.{filled_below}
use Rattle.mesh_page_heap.specs.Indexes.{class_in, layout_of, members_in, slots_in}
use Rattle.mesh_page_heap.specs.Layout.{IsOrderly, IsPageOf, IsPair, IsPlaced, IsSource, IsStage, Layout, idle, page_total}
use Rattle.mesh_page_heap.specs.MeshLayouts.{mesh_from, stage_at, stage_of, stage_with}
use Rattle.mesh_page_heap.proofs.Groups.{IsEntry, entry_in_table, no_overlap, once_in, one_place, page_is, pages_counted, pages_long, table_entry}
use Rattle.mesh_page_heap.proofs.MeshList.{one_of_class}
use Rattle.mesh_page_heap.proofs.Stages.{made_stage, unwinding_stage}

-- the mesh from a group
pub record IsFrom (l : Layout) (ms : List Mesh) (n : ℕ) : Type 0 where
  pub mesh : Mesh
  pub found : mesh_from n ms ≡ Some mesh
  pub source : mesh.source ≡ n
  pub into : (stage_of l ms n).into ≡ mesh.destination

-- a group has no mesh, or one
pub mesh_of : (l : Layout) (ms : List Mesh) (n : ℕ) → (mesh_from n ms ≡ None) ⊎ IsFrom l ms n
mesh_of l ms n = go (mesh_from n ms) refl
  where
    into_at : (d : ℕ) (progress : Progress) (total slots : ℕ) → (stage_at total slots d progress).into ≡ d
    into_at d (Made k) total slots = refl
    into_at d (Unwinding q u) total slots = refl

    go : (o : Option Mesh) → mesh_from n ms ≡ o → (mesh_from n ms ≡ None) ⊎ IsFrom l ms n
    go None found = inl found
    go (Some mesh) found = inr (record {
      mesh = mesh;
      found = found;
      source = eqb-true mesh.source n (found_passes Mesh (λ x. nat_eq x.source n) ms mesh found).2;
      into = ap (λ (o : Option Mesh). (stage_with l n o).into) found ∙ into_at mesh.destination mesh.progress (page_total l n) (slots_of (l.class n));
    })

-- a number that is in a list stands at a place of it
place_of : (v : ℕ) (xs : List ℕ) → 1 ≤ times_in v xs → (place : ℕ) × (place < length xs) × (slice_index xs place ≡ v)
place_of v [] some = absurd (omega (arith, some))
place_of v (x ∷ xs) some = elim (eqb_tells x v) [
  | inl same ↦ (0, omega arith, same.1)
  | inr other ↦ let more : 1 ≤ 0 + times_in v xs = rw other.0 at some in
      let rest = place_of v xs (omega (arith, more)) in (suc rest.0, omega (arith, rest.1), rest.2)
]

module _ (index : Index) (t : Table) (sound_index : IsIndex index.spans index.groups) (sound : IsSound t) (groups : t.groups ≡ groups_of index) where
  -- a number with a page is a group
  has_entry : (n i v : ℕ) → IsPageOf (layout_of index) n i v → (entry : GroupEntry) × (group_at index.groups n ≡ Some entry)
  has_entry n i v page = go (group_at index.groups n) refl page.within
    where
      go : (o : Option GroupEntry) → group_at index.groups n ≡ o → i < length (members_in o) * pages_of (class_in o)
          → (entry : GroupEntry) × (group_at index.groups n ≡ Some entry)
      go None at within = absurd (omega (arith, within))
      go (Some entry) at within = (entry, at)

  in_table : (n : ℕ) (entry : GroupEntry) → group_at index.groups n ≡ Some entry → group_of t n ≡ Some (table_group index.spans n entry)
  in_table n entry at = rw groups (entry_in_table index n entry at)

  -- page `i` of a group stands there among the table's
  page_there : (n i v : ℕ) (entry : GroupEntry) → group_at index.groups n ≡ Some entry → IsPageOf (layout_of index) n i v
      → (i < length (virtual_pages (table_group index.spans n entry))) × (slice_index (virtual_pages (table_group index.spans n entry)) i ≡ v)
  page_there n i v entry at page =
      let long = pages_long (pages_of entry.class) (map (first_of index.spans) entry.members) in
      (omega (arith, page.within, long, pages_counted index n entry at), page_is index n i entry at page.within ∙ page.at)

  once : (n i m i' v : ℕ) → IsPageOf (layout_of index) n i v → IsPageOf (layout_of index) m i' v → (n ≡ m) × (i ≡ i')
  once n i m i' v page page' =
      let entry = has_entry n i v page in
      let entry' = has_entry m i' v page' in
      let here = page_there n i v entry.0 entry.1 page in
      let there = page_there m i' v entry'.0 entry'.1 page' in
      let g : Group = table_group index.spans n entry.0 in
      let h : Group = table_group index.spans m entry'.0 in
      let same = page_of_one t v n m g h sound (in_table n entry.0 entry.1) (in_table m entry'.0 entry'.1)
      (once_in (virtual_pages g) i v here.0 here.1) (once_in (virtual_pages h) i' v there.0 there.1) in
      let there' = page_there n i' v entry.0 entry.1 (rw (sym same) at page') in
      (same, one_place (virtual_pages g) i i' v (page_once t v n g sound (in_table n entry.0 entry.1)) here.0 there'.0 here.1 there'.1)

  placed : (n k : ℕ) (slot : Slot) → slice_index_or (slots_in (group_at index.groups n)) k None ≡ Some slot → IsPlaced (layout_of index) n k slot
  placed n k slot filled = go (group_at index.groups n) refl filled
    where
      go : (o : Option GroupEntry) → group_at index.groups n ≡ o → slice_index_or (slots_in o) k None ≡ Some slot → IsPlaced (layout_of index) n k slot
      go None at filled = absurd (let two : ◌≡◌ {A = Option Slot} None (Some slot) = filled in cc two)
      go (Some entry) at filled =
          let is = found_sound t (has_number n) (table_group index.spans n entry) sound (in_table n entry at) in
          let inside = filled_below entry.slots k slot filled in
          let object = is.objects k slot (slice_get-get_or entry.slots k None inside ∙ ap Some filled) in
          let member = place_of slot.member (map (first_of index.spans) entry.members) object.in_member in
          let within : member.0 < length entry.members = omega (arith, member.1, length-map entry.members (first_of index.spans)) in
          let first : (span_at index.spans (slice_index entry.members member.0)).first ≡ slot.member
          = sym (get_or-map (first_of index.spans) entry.members member.0 0 0 within) ∙ member.2 in
          record {
            place = member.0;
            member = rw at within;
            first = rw at first;
            below = rw at (omega (arith, inside, is.places));
            fits = rw at object.fits;
          }

  -- the mesh from a group is sound
  pub from_sound : (n : ℕ) (mesh : Mesh) → mesh_from n t.meshes ≡ Some mesh → IsSoundMesh t mesh
  from_sound n mesh found = mesh_found t (λ m. nat_eq m.source n) t.meshes mesh found sound.meshes

  -- and has the group for its source
  pub source_there : (n : ℕ) (h : IsFrom (layout_of index) t.meshes n) → group_of t n ≡ Some (from_sound n h.mesh h.found).source
  source_there n h = ap (group_of t) (sym h.source) ∙ (from_sound n h.mesh h.found).source_is

  -- two meshes of a class are one
  one_mesh : (n m : ℕ) (x y : Mesh) → mesh_from n t.meshes ≡ Some x → mesh_from m t.meshes ≡ Some y → x.class ≡ y.class → x ≡ y
  one_mesh n m x y found found' class =
      let a = found_passes Mesh (λ mesh. nat_eq mesh.source n) t.meshes x found in
      let b = found_passes Mesh (λ mesh. nat_eq mesh.source m) t.meshes y found' in
      one_of_class t.meshes a.0 b.0 x y sound.one_a_class a.1 b.1 class

  -- a group of the table is one of the index
  pub entry_of : (n : ℕ) (g : Group) → group_of t n ≡ Some g → IsEntry index n g
  entry_of n g is = table_entry index n g (rw groups at is)

  -- a group of a sound mesh in the layout
  pub class_of : (n : ℕ) (g : Group) → group_of t n ≡ Some g → (class_in (group_at index.groups n) ≡ g.class)
      × (slots_in (group_at index.groups n) ≡ g.slots) × (length (members_in (group_at index.groups n)) ≡ length g.members)
  class_of n g is = grind (arith, entry_of n g is, length-map)

  pub total_is : (n : ℕ) (g : Group) → group_of t n ≡ Some g → page_total (layout_of index) n ≡ page_count g
  total_is n g is = let e = entry_of n g is in rw e.same (sym (pages_counted index n e.entry e.there))

  -- a group with a mesh has a page
  some_total : (n : ℕ) (g : Group) → group_of t n ≡ Some g → 0 < page_count g
  some_total n g is =
      let e = entry_of n g is in
      let most : 1 * pages_of g.class ≤ page_count g = mul-le-mul_right (pages_of g.class) (found_sound t (has_number n) g sound is).some_member in
      omega (arith, (sound_index.each n e.entry e.there).class.some_page, most, (ap (λ (x : Group). pages_of x.class) e.same))

  stage_there : (n : ℕ) → IsStage (page_total (layout_of index) n) (slots_of (class_in (group_at index.groups n))) (stage_of (layout_of index) t.meshes n)
  stage_there n = elim (mesh_of (layout_of index) t.meshes n) [
    | inl none ↦ rw none (unwinding_stage (page_total (layout_of index) n) (slots_of (class_in (group_at index.groups n))) n 0 0 (omega arith))
    | inr h ↦
        let is = from_sound n h.mesh h.found in
        let at = source_there n h in
        rw (h.found, total_is n is.source at)
        (progress_stage (page_count is.source) (slots_of (class_in (group_at index.groups n))) h.mesh.destination h.mesh.progress is.source refl is.within
        (some_total n is.source at))
  ]
    where
      progress_stage : (total slots d : ℕ) (progress : Progress) (g : Group) → page_count g ≡ total → IsWithinSteps g progress → 0 < total
          → IsStage total slots (stage_at total slots d progress)
      progress_stage total slots d (Made k) g is within some = made_stage total slots d k some
      progress_stage total slots d (Unwinding q u) g is within some = unwinding_stage total slots d q u (omega (arith, within.1, is))

  pub has_mesh : (n : ℕ) → IsSource (stage_of (layout_of index) t.meshes) n → IsFrom (layout_of index) t.meshes n
  has_mesh n source = grind (arith, mesh_of)

  pub idle_there : (n : ℕ) → (stage_of (layout_of index) t.meshes n).into ≡ n → stage_of (layout_of index) t.meshes n ≡ idle n
  idle_there n own = elim (mesh_of (layout_of index) t.meshes n) [
    | inl none ↦ ap (stage_with (layout_of index) n) none
    | inr h ↦ absurd (eqb-false h.mesh.source h.mesh.destination (from_sound n h.mesh h.found).two (h.source ∙ sym own ∙ h.into))
  ]

  -- the class of the destination is the mesh's
  dest_class : (n : ℕ) (mesh : Mesh) → mesh_from n t.meshes ≡ Some mesh → class_in (group_at index.groups mesh.destination) ≡ mesh.class
  dest_class n mesh found = let is = from_sound n mesh found in (class_of mesh.destination is.destination is.destination_is).0 ∙ is.destination_class

  -- and so is that of the source
  source_class : (n : ℕ) (h : IsFrom (layout_of index) t.meshes n) → class_in (group_at index.groups n) ≡ h.mesh.class
  source_class n h = let is = from_sound n h.mesh h.found in (class_of n is.source (source_there n h)).0 ∙ is.source_class

  -- no mesh is from a destination
  pub no_mesh_from : (n : ℕ) (mesh : Mesh) → mesh_from n t.meshes ≡ Some mesh → mesh_from mesh.destination t.meshes ≡ None
  no_mesh_from n mesh found = elim (mesh_of (layout_of index) t.meshes mesh.destination) [
    | inl none ↦ none
    | inr h ↦ absurd (
        let one = one_mesh n mesh.destination mesh h.mesh found h.found (sym (dest_class n mesh found) ∙ source_class mesh.destination h) in
        eqb-false mesh.source mesh.destination (from_sound n mesh found).two (ap (λ (x : Mesh). x.source) one ∙ h.source))
  ]

  pair_there : (n : ℕ) (h : IsFrom (layout_of index) t.meshes n) → IsPair (layout_of index) (stage_of (layout_of index) t.meshes) n h.mesh.destination
  pair_there n h =
      let is = from_sound n h.mesh h.found in
      let at = source_there n h in
      let a = class_of n is.source at in
      let b = class_of h.mesh.destination is.destination is.destination_is in
      record {
        source = omega (arith, a.2, (found_sound t (has_number n) is.source sound at).some_member);
        destination = omega (arith, b.2, (found_sound t (has_number h.mesh.destination) is.destination sound is.destination_is).some_member);
        same_class = dest_class n h.mesh h.found ∙ sym (source_class n h);
        apart = λ k slot slot' filled filled'. no_overlap is.source.slots is.destination.slots k slot slot' is.apart (rw a.1 at filled) (rw b.1 at filled');
        quiet = ap (stage_with (layout_of index) h.mesh.destination) (no_mesh_from n h.mesh h.found);
      }

  -- where index and table are sound, layout and stages are in order
  pub orderly : IsOrderly (layout_of index) (stage_of (layout_of index) t.meshes)
  orderly = record {
    class = λ n some. go n (group_at index.groups n) refl some;
    once = once;
    placed = placed;
    idle = idle_there;
    stage = stage_there;
    pair = λ n source. let h = has_mesh n source in rw h.into (pair_there n h);
    one = λ n m source source' same. let h = has_mesh n source in let h' = has_mesh m source' in
        sym h.source ∙ ap (λ (x : Mesh). x.source) (one_mesh n m h.mesh h'.mesh h.found h'.found (sym (dest_class n h.mesh h.found)
        ∙ ap (λ (x : ℕ). class_in (group_at index.groups x)) (sym h.into ∙ same ∙ h'.into) ∙ dest_class m h'.mesh h'.found)) ∙ h'.source;
  }
    where
      go : (n : ℕ) (o : Option GroupEntry) → group_at index.groups n ≡ o → 0 < length (members_in o) → IsClass (class_in (group_at index.groups n))
      go n None at some = absurd (omega (arith, some))
      go n (Some entry) at some = rw at (sound_index.each n entry at).class
