-- A running mesh of a heap as rows: one for each physical page of the source, with a view for each member.
use Rattle.std.specs.Prelude.{◌≡◌, ◌≢◌, ℕ, ◌+◌, ◌*◌, ◌/◌, ◌%◌, ◌<◌, ◌≤◌, ◌⊎◌, Bool, not, if◌then◌else◌, nat_eq, nat_lt, List, [], Option, Some, None, length, slice_index}
use Rattle.std.specs.List.{list_any}
use Rattle.model_memory.specs.Memory.{Memory}
use Rattle.model_orders.specs.Views.{Row, Shape, View}
use Rattle.model_orders.specs.declared.facts.Protection.{Protection}
use Rattle.model_orders.specs.declared.facts.Protection.TheVariants.{ReadWrite, ReadOnly, Hidden}
use Rattle.model_orders.specs.declared.facts.Side.TheVariants.{Source, Destination}
use Rattle.model_otherwise.specs.Effects.{Meshing, len_now}
use Rattle.model_otherwise.specs.Heaps.{Heap, Mesh}
use Rattle.model_otherwise.specs.PageMap.{entry_at}
use Rattle.model_otherwise.specs.Spots.{byte_at}
use Rattle.model_otherwise.specs.declared.page_map.Entry.{Entry}
use Rattle.model_otherwise.specs.declared.page_map.Protection.{Protection as PageProtection}
use Rattle.model_otherwise.specs.declared.page_map.Protection.TheVariants.{ReadWrite as AllowsAll, ReadOnly as AllowsLoads, Hidden as AllowsNone}
use Rattle.model_words.specs.Classes.{pages_of, slots_of}

abbrev pub protection_of : PageProtection → Protection
protection_of AllowsAll = ReadWrite
protection_of AllowsLoads = ReadOnly
protection_of AllowsNone = Hidden

-- a virtual page with this entry, where `from` is its physical page in the source. A page that isn't mapped is taken
-- for one that allows all
abbrev pub view_of : ℕ → Option Entry → View
view_of from None = record { protection = ReadWrite; target = Source }
view_of from (Some entry) = record {
  protection = protection_of entry.protection;
  target = if nat_eq entry.page from then Source else Destination;
}

-- the view of member `i` in row `j`
abbrev pub view_at : Meshing → ℕ → ℕ → View
view_at x j i = view_of (slice_index x.mesh.from j) (entry_at x.heap.entries (slice_index x.mesh.members i + j))

-- whether the source's physical page of row `j` is released
abbrev pub is_released : Meshing → ℕ → Bool
is_released x j = not (list_any (nat_eq (slice_index x.mesh.from j)) x.heap.taken)

-- the byte at an offset of page `j` of a span with these physical pages
abbrev pub byte_on : List ℕ → Heap → ℕ → ℕ → ℕ
byte_on pages heap j offset = byte_at heap.spots (4096 * slice_index pages j + offset)

-- whether the byte at an offset of a span of the source is one of a live object
abbrev pub is_live : Memory → Mesh → ℕ → Bool
is_live m mesh offset = nat_lt (offset % mesh.class) (len_now m mesh (offset / mesh.class))

-- row `j` of a running mesh, as far as its steps change it. A row has the reference memory's bytes and the steps that
-- are left too, which no step changes
abbrev pub row_at : Memory → (ℕ → ℕ) → Meshing → ℕ → Row
row_at m memory x j = record {
  views = view_at x j;
  released = is_released x j;
  source = byte_on x.mesh.from x.heap j;
  destination = byte_on x.mesh.into x.heap j;
  live = λ offset. is_live m x.mesh (4096 * j + offset);
  memory = memory;
  left = [];
  made = 0;
}

-- the shape of row `j`: a view for each member, and a move of a copy for each slot
abbrev pub shape_at : Mesh → ℕ → Shape
shape_at mesh j = record { views = length mesh.members; pieces = slots_of mesh.class; piece = λ offset. (4096 * j + offset) / mesh.class }

-- two rows of a shape are the same: their views, and their bytes, of which there are 4,096 on each side
pub record AreSame (shape : Shape) (row other : Row) : Type 0 where
  pub views : (i : ℕ) → i < shape.views → row.views i ≡ other.views i
  pub released : row.released ≡ other.released
  pub source : (offset : ℕ) → offset < 4096 → row.source offset ≡ other.source offset
  pub destination : (offset : ℕ) → offset < 4096 → row.destination offset ≡ other.destination offset
  pub live : (offset : ℕ) → offset < 4096 → row.live offset ≡ other.live offset
  pub memory : (offset : ℕ) → offset < 4096 → row.memory offset ≡ other.memory offset

-- what is so of each running mesh of a sound heap: its virtual pages are apart, and mapped to the page of
-- their number on one of the sides. Its physical pages are apart. No step has looked for objects
pub record IsOfMesh (x : Meshing) : Type 0 where
  pub class : 0 < x.mesh.class
  pub short : x.mesh.class ≤ 4096
  pub span : slots_of x.mesh.class * x.mesh.class ≤ 4096 * pages_of x.mesh.class
  pub members_apart : (i k j l : ℕ) → i < length x.mesh.members → k < length x.mesh.members → j < pages_of x.mesh.class → l < pages_of x.mesh.class
      → slice_index x.mesh.members i + j ≡ slice_index x.mesh.members k + l → (i ≡ k) × (j ≡ l)
  pub mapped : (i j : ℕ) → i < length x.mesh.members → j < pages_of x.mesh.class → entry_at x.heap.entries (slice_index x.mesh.members i + j) ≢ None
  pub on_sides : (i j : ℕ) (entry : Entry) → i < length x.mesh.members → j < pages_of x.mesh.class
      → entry_at x.heap.entries (slice_index x.mesh.members i + j) ≡ Some entry
      → (entry.page ≡ slice_index x.mesh.from j) ⊎ (entry.page ≡ slice_index x.mesh.into j)
  pub from_apart : (j l : ℕ) → j < pages_of x.mesh.class → l < pages_of x.mesh.class → slice_index x.mesh.from j ≡ slice_index x.mesh.from l → j ≡ l
  pub into_apart : (j l : ℕ) → j < pages_of x.mesh.class → l < pages_of x.mesh.class → slice_index x.mesh.into j ≡ slice_index x.mesh.into l → j ≡ l
  pub sides_apart : (j l : ℕ) → j < pages_of x.mesh.class → l < pages_of x.mesh.class → slice_index x.mesh.from j ≢ slice_index x.mesh.into l
  pub unseen : x.mesh.seen ≡ None
