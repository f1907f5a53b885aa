-- What each step does, by examples: a mesh of a source with two members into a destination with one.
use Rattle.std.specs.Prelude.{◌≡◌, ℕ, true, false, List, [], ◌∷◌, ◌++◌, Option, Some, None, map, replicate}
use Rattle.model_memory.specs.Memory.{Memory}
use Rattle.model_otherwise.specs.Effects.{Meshing, effect}
use Rattle.model_otherwise.specs.Heaps.{Heap, Mesh}
use Rattle.model_otherwise.specs.PageMap.{access_of}
use Rattle.model_otherwise.specs.Spots.{byte_at}
use Rattle.model_otherwise.specs.declared.page_map.Access.TheVariants.{Reached, Blocked, NoPage}
use Rattle.model_otherwise.specs.declared.page_map.Entry.{Entry}
use Rattle.model_otherwise.specs.declared.page_map.Protection.{Protection}
use Rattle.model_otherwise.specs.declared.page_map.Protection.TheVariants.{ReadWrite, ReadOnly, Hidden}
use Rattle.model_otherwise.specs.declared.steps.Step.TheVariants.{Protect, Hide, Copy, CopyPiece, CopyPage, Remap, Unmap, Unprotect, Release, ReleaseDirty, Merge, Open, OpenSource, OpenDestination, Look}

-- an entry of the page map
abbrev pub entry : ℕ → Protection → Option Entry
entry page protection = Some (record { page = page; protection = protection })

-- virtual pages 1 and 2 are the source's members, on physical page 5; virtual page 3 is the destination's, on page 7.
-- The source's slot 1 has bytes, and the destination's slot 0
abbrev pub heap : Heap
heap = record {
  next_group = 2;
  groups = record { number = 0; class = 2048; members = 1 ∷ 2 ∷ []; pages = 5 ∷ []; is_open = false }
      ∷ record { number = 1; class = 2048; members = 3 ∷ []; pages = 7 ∷ []; is_open = false } ∷ [];
  entries = None ∷ entry 5 ReadWrite ∷ entry 5 ReadOnly ∷ entry 7 ReadWrite ∷ [];
  taken = 5 ∷ 7 ∷ [];
  spots = record { place = 22528; value = 17 } ∷ record { place = 22529; value = 18 } ∷ record { place = 28672; value = 33 } ∷ [];
  flight = None;
}

-- the mesh of group 0 into group 1
abbrev pub mesh : Mesh
mesh = record { source = 0; destination = 1; class = 2048; members = 1 ∷ 2 ∷ []; from = 5 ∷ []; into = 7 ∷ []; seen = None; made = 0 }

-- an object of two bytes is in slot 1, at an address of the second member
abbrev pub memory : Memory
memory = record { objects = Some (record { address = 10240; bytes = 17 ∷ 18 ∷ [] }) ∷ []; roots = [] }

-- heap and mesh before the step
abbrev pub before : Meshing
before = record { heap = heap; mesh = mesh }

-- a protect makes a page read-only, a hide allows no access, an unprotect allows all. The pages go through the members
abbrev pub ProtectsOnePage : Type 0
ProtectsOnePage =
    ((effect memory Protect 0 before).heap.entries ≡ None ∷ entry 5 ReadOnly ∷ entry 5 ReadOnly ∷ entry 7 ReadWrite ∷ [])
    × ((effect memory Hide 1 before).heap.entries ≡ None ∷ entry 5 ReadWrite ∷ entry 5 Hidden ∷ entry 7 ReadWrite ∷ [])
    × ((effect memory Unprotect 1 before).heap.entries ≡ None ∷ entry 5 ReadWrite ∷ entry 5 ReadWrite ∷ entry 7 ReadWrite ∷ [])

-- a remap maps one page to the destination's page, and the page keeps its protection. An unmapped page is mapped for
-- loads and stores
abbrev pub RemapsOnePage : Type 0
RemapsOnePage =
    ((effect memory Remap 1 before).heap.entries ≡ None ∷ entry 5 ReadWrite ∷ entry 7 ReadOnly ∷ entry 7 ReadWrite ∷ [])
    × ((effect memory Unmap 1 before).heap.entries ≡ None ∷ entry 5 ReadWrite ∷ None ∷ entry 7 ReadWrite ∷ [])
    × ((effect memory Remap 1 (effect memory Unmap 1 before)).heap.entries ≡ None ∷ entry 5 ReadWrite ∷ entry 7 ReadWrite ∷ entry 7 ReadWrite ∷ [])

-- both members' pages are mapped to the destination's page
abbrev pub remapped : Meshing
remapped = effect memory Remap 0 (effect memory Remap 1 before)

-- a copy of a slot with an object copies its bytes between the physical pages, wherever the members' pages are mapped.
-- A copy of a slot without one copies nothing
abbrev pub CopiesObjects : Type 0
CopiesObjects =
    (map (byte_at (effect memory Copy 1 remapped).heap.spots) (28672 ∷ 30720 ∷ 30721 ∷ 30722 ∷ 22528 ∷ []) ≡ 33 ∷ 17 ∷ 18 ∷ 0 ∷ 17 ∷ [])
    × ((effect memory Copy 0 before).heap ≡ heap)

-- a piece of a slot is copied as far as there is an object. With one byte in a piece, piece 2,049 is byte 1 of slot 1
abbrev pub CopiesPieces : Type 0
CopiesPieces =
    (map (byte_at (effect memory (CopyPiece 1) 2048 before).heap.spots) (30720 ∷ 30721 ∷ []) ≡ 17 ∷ 0 ∷ [])
    × (map (byte_at (effect memory (CopyPiece 1) 2049 before).heap.spots) (30720 ∷ 30721 ∷ []) ≡ 0 ∷ 18 ∷ [])
    × ((effect memory (CopyPiece 1) 2050 before).heap ≡ heap)
    × ((effect memory (CopyPiece 1) 1 before).heap ≡ heap)
    × ((effect memory (CopyPiece 1024) 2 before).heap ≡ (effect memory Copy 1 before).heap)

-- a release frees the physical page, and its bytes become zero unless the page stays dirty
abbrev pub ReleasesOnePage : Type 0
ReleasesOnePage =
    ((effect memory Release 0 before).heap.taken ≡ 7 ∷ [])
    × ((effect memory Release 0 before).heap.spots ≡ record { place = 28672; value = 33 } ∷ [])
    × ((effect memory ReleaseDirty 0 before).heap.taken ≡ 7 ∷ [])
    × ((effect memory ReleaseDirty 0 before).heap.spots ≡ heap.spots)

-- a merge leaves one group, open to new objects, whose members are the destination's and then the source's
abbrev pub MergesGroups : Type 0
MergesGroups =
    (effect memory Merge 0 before).heap.groups ≡ record { number = 1; class = 2048; members = 3 ∷ 1 ∷ 2 ∷ []; pages = 7 ∷ []; is_open = true } ∷ []

-- an open leaves two groups, of which both or one are open to new objects
abbrev pub OpensGroups : Type 0
OpensGroups =
    (map (λ group. group.is_open) (effect memory Open 0 before).heap.groups ≡ true ∷ true ∷ [])
    × (map (λ group. group.is_open) (effect memory OpenSource 0 before).heap.groups ≡ true ∷ false ∷ [])
    × (map (λ group. group.is_open) (effect memory OpenDestination 0 before).heap.groups ≡ false ∷ true ∷ [])
    × (map (λ group. group.members) (effect memory Open 0 before).heap.groups ≡ (1 ∷ 2 ∷ []) ∷ (3 ∷ []) ∷ [])

-- after a look, a copy is of the objects that were there then, also where they are freed
abbrev pub LooksOnce : Type 0
LooksOnce =
    (map (byte_at (effect (record { objects = None ∷ []; roots = [] }) Copy 1 (effect memory Look 0 before)).heap.spots) (30720 ∷ 30721 ∷ []) ≡ 17 ∷ 18 ∷ [])
    × ((effect (record { objects = None ∷ []; roots = [] }) Copy 1 before).heap ≡ heap)

-- a store waits on a page that is read-only, and a load doesn't. Both wait on a hidden page, and neither reaches a page
-- that isn't mapped. An access to two pages waits if one of them doesn't allow it
abbrev pub AccessesAreAllowed : Type 0
AccessesAreAllowed =
    (access_of (effect memory Protect 0 before).heap.entries true 4096 1 ≡ Blocked)
    × (access_of (effect memory Protect 0 before).heap.entries false 4096 1 ≡ Reached)
    × (access_of (effect memory Hide 0 before).heap.entries false 4096 1 ≡ Blocked)
    × (access_of (effect memory Unprotect 1 before).heap.entries true 8192 1 ≡ Reached)
    × (access_of (effect memory Unmap 1 before).heap.entries false 8192 1 ≡ NoPage)
    × (access_of heap.entries true 8191 2 ≡ Blocked)
    × (access_of heap.entries true 12287 1 ≡ Blocked)

-- ---- spans of three pages

-- an entry that allows loads and stores
abbrev pub open_entry : ℕ → Option Entry
open_entry page = entry page ReadWrite

-- virtual pages 1 and 4 begin the source's members, on physical pages 10 to 12; virtual page 7 begins the
-- destination's, on pages 13 to 15. Slot 10 of the class begins 256 bytes before the end of a span's page 0
abbrev pub wide_heap : Heap
wide_heap = record {
  next_group = 2;
  groups = record { number = 0; class = 384; members = 1 ∷ 4 ∷ []; pages = 10 ∷ 11 ∷ 12 ∷ []; is_open = false }
      ∷ record { number = 1; class = 384; members = 7 ∷ []; pages = 13 ∷ 14 ∷ 15 ∷ []; is_open = false } ∷ [];
  entries = None ∷ map open_entry (10 ∷ 11 ∷ 12 ∷ 10 ∷ 11 ∷ 12 ∷ 13 ∷ 14 ∷ 15 ∷ []);
  taken = 10 ∷ 11 ∷ 12 ∷ 13 ∷ 14 ∷ 15 ∷ [];
  spots = record { place = 45055; value = 21 } ∷ record { place = 45056; value = 22 } ∷ record { place = 45058; value = 23 } ∷ [];
  flight = None;
}

-- the mesh of group 0 into group 1
abbrev pub wide_mesh : Mesh
wide_mesh = record {
  source = 0;
  destination = 1;
  class = 384;
  members = 1 ∷ 4 ∷ [];
  from = 10 ∷ 11 ∷ 12 ∷ [];
  into = 13 ∷ 14 ∷ 15 ∷ [];
  seen = None;
  made = 0;
}

-- an object of 258 bytes is in slot 10, at an address of the second member: two of its bytes are on the span's page 1
abbrev pub wide_memory : Memory
wide_memory = record { objects = Some (record { address = 20224; bytes = replicate 258 0 }) ∷ []; roots = [] }

abbrev pub wide_before : Meshing
wide_before = record { heap = wide_heap; mesh = wide_mesh }

-- the places of the bytes around the end of page 0 of the destination's span
abbrev pub wide_places : List ℕ
wide_places = 57343 ∷ 57344 ∷ 57346 ∷ []

-- the steps of pages go through each member's pages, and each page goes to the page of the same number in its span. A
-- copy of a slot goes to the page behind, and a copy of a page stops at its end
abbrev pub GoesThroughPages : Type 0
GoesThroughPages =
    ((effect wide_memory Protect 4 wide_before).heap.entries
    ≡ None ∷ map open_entry (10 ∷ 11 ∷ 12 ∷ 10 ∷ []) ++ entry 11 ReadOnly ∷ map open_entry (12 ∷ 13 ∷ 14 ∷ 15 ∷ []))
    × ((effect wide_memory Hide 4 wide_before).heap.entries
    ≡ None ∷ map open_entry (10 ∷ 11 ∷ 12 ∷ 10 ∷ []) ++ entry 11 Hidden ∷ map open_entry (12 ∷ 13 ∷ 14 ∷ 15 ∷ []))
    × ((effect wide_memory Unmap 4 wide_before).heap.entries
    ≡ None ∷ map open_entry (10 ∷ 11 ∷ 12 ∷ 10 ∷ []) ++ None ∷ map open_entry (12 ∷ 13 ∷ 14 ∷ 15 ∷ []))
    × ((effect wide_memory Unprotect 4 (effect wide_memory Protect 4 wide_before)).heap.entries ≡ wide_heap.entries)
    × ((effect wide_memory Remap 4 wide_before).heap.entries ≡ None ∷ map open_entry (10 ∷ 11 ∷ 12 ∷ 10 ∷ 14 ∷ 12 ∷ 13 ∷ 14 ∷ 15 ∷ []))
    × ((effect wide_memory Release 2 wide_before).heap.taken ≡ 10 ∷ 11 ∷ 13 ∷ 14 ∷ 15 ∷ [])
    × (map (byte_at (effect wide_memory Copy 10 wide_before).heap.spots) wide_places ≡ 21 ∷ 22 ∷ 0 ∷ [])
    × (map (byte_at (effect wide_memory CopyPage 0 wide_before).heap.spots) wide_places ≡ 21 ∷ 0 ∷ 0 ∷ [])
    × (map (byte_at (effect wide_memory CopyPage 1 wide_before).heap.spots) wide_places ≡ 0 ∷ 22 ∷ 0 ∷ [])
    × ((effect wide_memory CopyPage 2 wide_before).heap ≡ wide_heap)
