-- What the table has of a group of the index: its members, its objects, and how many of its pages are released.
use Rattle.std.proofs.Common.{◌≡◌, ℕ, ◌+◌, ◌-◌, ◌*◌, ◌<◌, find, length, slice_get, false, Option, Some, None, is_some, refl, subst, sym, ◌∙◌, arith}
use Rattle.std.specs.Option.{option_map}
use Rattle.std.specs.FinMap as map
use Rattle.std.proofs.lemmas.List.{length-map}
use Rattle.std.proofs.lemmas.Option.{get_or_from_slice_get, none-some, slice_get-get_or, slice_get-map, slice_get_past, slice_get_within}
use Rattle.mesh_page_heap.proofs.Groups.{entry_in_table, none_in_table}
use Rattle.mesh_page_heap.specs.Indexes.{layout_of, members_in}
use Rattle.mesh_pagemap.specs.Entries.{Entries, is_mapped, reads_only}
use Rattle.mesh_pagemap.specs.declared.prot.Prot.{Prot}
use Rattle.mesh_class.specs.Classes.{slots_of}
use Rattle.mesh_page_heap.specs.Layout.{page_total}
use Rattle.model_heap.specs.Table.{Made, Mesh, Unwinding, has_number}
use Rattle.mesh_spans.specs.Groups.{first_of, groups_of}
use Rattle.mesh_spans.specs.Index.{GroupEntry, Index, IsIndex, IsMember, group_at, no_span, record_at}
use Rattle.mesh_page_heap.specs.Shown.{lead_at, member_at, object_at, released_of}
use Rattle.mesh_pagemap.specs.declared.mapping.Mapping.{Mapping}

-- nothing stands in no list
nothing_at : (place : ℕ) → slice_get (members_in None) place ≡ None
nothing_at place = slice_get_past (members_in None) place (omega arith)

-- a group's members are its spans
pub member_shown : (index : Index) (n place : ℕ) (entry : Option GroupEntry) → group_at index.groups n ≡ entry
    → member_at (find (has_number n) (groups_of index)) place ≡ option_map (first_of index.spans) (slice_get (members_in entry) place)
member_shown index n place None at = rw (none_in_table index n at, nothing_at place) refl
member_shown index n place (Some entry) at = rw (entry_in_table index n entry at) (slice_get-map (first_of index.spans) entry.members place)

-- the span at a place of a group's members is one of the group
member_of : (index : Index) (n place span : ℕ) (entry : GroupEntry) → IsIndex index.spans index.groups → group_at index.groups n ≡ Some entry
    → slice_get entry.members place ≡ Some span → IsMember index.spans entry n span
member_of index n place span entry sound at is =
    subst (λ one. IsMember index.spans entry n one) (get_or_from_slice_get entry.members place span 0 is)
    (sound.members n place entry at (slice_get_within entry.members place span is))

-- a member is a span of the index
pub member_below : (index : Index) (n place span : ℕ) (entry : Option GroupEntry) → IsIndex index.spans index.groups → group_at index.groups n ≡ entry
    → slice_get (members_in entry) place ≡ Some span → span < length index.spans
member_below index n place span None sound at is = absurd (none-some span (sym (nothing_at place) ∙ is))
member_below index n place span (Some entry) sound at is = (member_of _ _ _ _ _ sound at is).below

-- what a span has in a slot, where there is a span
abbrev pub record_of : Index → Option ℕ → ℕ → Option (ℕ × ℕ)
record_of index None k = None
record_of index (Some span) k = record_at index span k

-- a group's objects are its spans'
pub object_shown : (index : Index) (n place k : ℕ) (entry : Option GroupEntry) (found : Option ℕ) → IsIndex index.spans index.groups → group_at index.groups n ≡ entry
    → slice_get (members_in entry) place ≡ found → object_at (find (has_number n) (groups_of index)) place k ≡ record_of index found k
object_shown index n place k None None sound at is = rw (none_in_table index n at) refl
object_shown index n place k None (Some span) sound at is = absurd (none-some span (sym (nothing_at place) ∙ is))
object_shown index n place k (Some entry) None sound at is = rw (entry_in_table index n entry at, slice_get-map (first_of index.spans) entry.members place, is) refl
object_shown index n place k (Some entry) (Some span) sound at is =
    let own = member_of index n place span entry sound at is in
    rw (entry_in_table index n entry at, slice_get-map (first_of index.spans) entry.members place, is, slice_get-get_or index.spans span no_span own.below, own.same_group, at) refl

-- a virtual page that isn't mapped leads nowhere
pub leads_nowhere : (m : Entries) (v : ℕ) → is_mapped m v ≡ false → lead_at m v ≡ None
unfolding is_mapped
leads_nowhere m v unmapped = nowhere (map.get m v) unmapped
  where
    nowhere : (entry : _) → is_some entry ≡ false → option_map {U = Mapping} (λ (e : ℕ × Prot). record { virtual_page = v; physical_page = e.0; read_only = reads_only e.1 }) entry ≡ None
    nowhere None is = refl
    nowhere (Some e) is = absurd (cc is)

-- how many pages are released of a group of the index, from which a mesh runs that has come so far
pub released_shown : (index : Index) (n made total slots : ℕ) (mesh : Mesh) (entry : GroupEntry) → group_at index.groups n ≡ Some entry → mesh.progress ≡ Made made
    → total ≡ page_total (layout_of index) n → slots ≡ slots_of ((layout_of index).class n)
    → made - (3 * total + slots) ≡ released_of (find (has_number n) (groups_of index)) (Some mesh)
released_shown index n made total slots mesh entry at progress is_total is_slots =
    rw (entry_in_table index n entry at, progress, is_total, is_slots, at, length-map entry.members (first_of index.spans)) refl

-- none is of one that is no group, of one that is no mesh's source, or where that mesh is cancelled
pub none_released : (index : Index) (n : ℕ) (mesh : Option Mesh) → group_at index.groups n ≡ None → 0 ≡ released_of (find (has_number n) (groups_of index)) mesh
none_released index n mesh at = rw (none_in_table index n at) refl

pub calm_released : (index : Index) (n : ℕ) (entry : GroupEntry) → group_at index.groups n ≡ Some entry → 0 ≡ released_of (find (has_number n) (groups_of index)) None
calm_released index n entry at = rw (entry_in_table index n entry at) refl

pub cancelled_released : (index : Index) (n q u : ℕ) (mesh : Mesh) (entry : GroupEntry) → group_at index.groups n ≡ Some entry → mesh.progress ≡ Unwinding q u
    → 0 ≡ released_of (find (has_number n) (groups_of index)) (Some mesh)
cancelled_released index n q u mesh entry at progress = rw (entry_in_table index n entry at, progress) refl
