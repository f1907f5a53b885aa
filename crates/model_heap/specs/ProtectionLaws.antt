-- Which pages the steps of a mesh protect, and which stores the protected pages block.
use Rattle.std.specs.Prelude.{◌≡◌, ◌↔◌, ℕ, ◌+◌, ◌-◌, ◌*◌, ◌<◌, ◌≤◌, ◌/◌, min, true, false, if◌then◌else◌, nat_eq, Some, slice_get}
use Rattle.std.specs.List.{list_any}
use Rattle.model_heap.specs.Mesh.{is_blocked, is_protected, page_count, read_only_pages, virtual_pages}
use Rattle.model_words.specs.Classes.{slots_of}
use Rattle.model_heap.specs.Table.{Mesh, Table, group_of, Group, Made, Unwinding}

-- before the first step no page is read-only
abbrev pub StartsWritable : Type 0
StartsWritable = (mp s j : ℕ) → is_protected mp s (Made 0) j ≡ false

-- the protect after `d` steps makes page `d` read-only, and changes no other page
abbrev pub ProtectsNext : Type 0
ProtectsNext = (mp s d j : ℕ) → d < mp → is_protected mp s (Made (d + 1)) j ≡ (if nat_eq j d then true else is_protected mp s (Made d) j)

-- copies and remaps change no page's protection
abbrev pub HoldsWhileCopying : Type 0
HoldsWhileCopying = (mp s d j : ℕ) → mp ≤ d → d < 2 * mp + s → is_protected mp s (Made (d + 1)) j ≡ is_protected mp s (Made d) j

-- an unprotect makes one page writable, in the order of the protects, and changes no other page
abbrev pub UnprotectsNext : Type 0
UnprotectsNext = (mp s d j : ℕ) → 2 * mp + s ≤ d → d < 3 * mp + s
    → is_protected mp s (Made (d + 1)) j ≡ (if nat_eq j (d - (2 * mp + s)) then false else is_protected mp s (Made d) j)

-- after the last unprotect no page is read-only, however many pages are released
abbrev pub ReleasesWritable : Type 0
ReleasesWritable = (mp s d j : ℕ) → 3 * mp + s ≤ d → is_protected mp s (Made d) j ≡ false

-- a cancel before the first remap changes no page's protection
abbrev pub CancelHolds : Type 0
CancelHolds = (mp s d j : ℕ) → d ≤ mp + s → is_protected mp s (Unwinding (min d mp) 0) j ≡ is_protected mp s (Made d) j

-- an unprotect of a cancelled mesh makes one page writable, in the order of the protects, and changes no other page
abbrev pub UnwindsNext : Type 0
UnwindsNext = (mp s q u j : ℕ) → u < q
    → is_protected mp s (Unwinding q (u + 1)) j ≡ (if nat_eq j u then false else is_protected mp s (Unwinding q u) j)

-- after all unprotects of a cancelled mesh no page is read-only
abbrev pub UnwoundIsWritable : Type 0
UnwoundIsWritable = (mp s q j : ℕ) → is_protected mp s (Unwinding q q) j ≡ false

-- the virtual page is read-only by the progress of a running mesh, as page `j` of the mesh's source
pub record IsReadOnlyBy (t : Table) (v : ℕ) : Type 0 where
  pub i : ℕ
  pub mesh : Mesh
  pub source : Group
  pub j : ℕ
  pub running : slice_get t.meshes i ≡ Some mesh
  pub source_is : group_of t mesh.source ≡ Some source
  pub page : slice_get (virtual_pages source) j ≡ Some v
  pub protected : is_protected (page_count source) (slots_of source.class) mesh.progress j ≡ true

-- a virtual page is among the read-only pages if and only if the progress of a running mesh makes this page read-only
abbrev pub ReadOnlyByMeshes : Type 0
ReadOnlyByMeshes = (t : Table) (v : ℕ) → (list_any (nat_eq v) (read_only_pages t) ≡ true) ↔ IsReadOnlyBy t v

-- a store is blocked if and only if one of its addresses is in a read-only page
abbrev pub BlockedByPages : Type 0
BlockedByPages = (t : Table) (address len : ℕ) → (is_blocked t address len ≡ true)
    ↔ ((x : ℕ) × (address ≤ x) × (x < address + len) × IsReadOnlyBy t (x / 4096))
