-- How far a running mesh is: its moves, and the slots whose objects have their bytes on the destination's pages.
use Rattle.std.specs.Prelude.{ℕ, ◌+◌, ◌*◌, ◌/◌, ◌%◌, Bool, false, ◌&&◌, not, nat_eq, List, Option, Some, None, find, length, slice_index, slice_index_or, unwrap_or}
use Rattle.std.specs.List.{list_any, range_with_len}
use Rattle.draw_picture.specs.declared.frame.MeshProgress.TheVariants.{Moves}
use Rattle.draw_picture.specs.declared.frame.RunningMesh.{RunningMesh}
use Rattle.model_heap.specs.Table.{slot_address}
use Rattle.model_memory.specs.Memory.{Memory, Object, next_serial, object_of}
use Rattle.model_otherwise.specs.Heaps.{Mesh}
use Rattle.model_otherwise.specs.Spots.{byte_at}
use Rattle.model_otherwise.specs.States.{Before, Over, Refused, Running, Stage}
use Rattle.model_otherwise.specs.declared.spot.Spot.{Spot}
use Rattle.model_words.specs.Classes.{slots_of}

-- the place of an offset of the destination's span
abbrev pub place_in : Mesh → ℕ → ℕ
place_in mesh offset = 4096 * slice_index_or mesh.into (offset / 4096) 0 + offset % 4096

-- whether the byte at an offset of the destination's span isn't that of these bytes
abbrev pub differs_at : List Spot → Mesh → ℕ → List ℕ → ℕ → Bool
differs_at spots mesh offset bytes k = not (nat_eq (byte_at spots (place_in mesh (offset + k))) (slice_index bytes k))

-- whether the bytes from an offset of the destination's span on aren't these
abbrev pub differs : List Spot → Mesh → ℕ → List ℕ → Bool
differs spots mesh offset bytes = list_any (differs_at spots mesh offset bytes) (range_with_len 0 (length bytes))

-- whether an address is that of a slot of one of the source's members
abbrev pub is_at_slot : Mesh → ℕ → ℕ → Bool
is_at_slot mesh address slot = list_any (λ member. nat_eq address (slot_address member mesh.class slot)) mesh.members

-- whether the object is in this slot of the source, and hasn't its bytes on the destination's pages
abbrev pub misses_object : List Spot → Mesh → ℕ → Option Object → Bool
misses_object spots mesh slot None = false
misses_object spots mesh slot (Some x) = is_at_slot mesh x.address slot && differs spots mesh (slot * mesh.class) x.bytes

abbrev pub misses : Memory → List Spot → Mesh → ℕ → ℕ → Bool
misses m spots mesh slot serial = misses_object spots mesh slot (object_of m serial)

-- whether an object in a slot of the source hasn't its bytes on the destination's pages
abbrev pub is_uncopied : Memory → List Spot → Mesh → ℕ → Bool
is_uncopied m spots mesh slot = list_any (misses m spots mesh slot) (range_with_len 0 (next_serial m))

-- the number of slots, from the first one on, whose objects have their bytes on the destination's pages
abbrev pub copied_slots : Memory → List Spot → Mesh → ℕ
copied_slots m spots mesh = unwrap_or (find (is_uncopied m spots mesh) (range_with_len 0 (slots_of mesh.class))) (slots_of mesh.class)

-- the running mesh of a mesher at this stage, if its mesh runs
abbrev pub mesh_row : Memory → List Spot → Option Stage → Option RunningMesh
mesh_row m spots None = None
mesh_row m spots (Some Before) = None
mesh_row m spots (Some Refused) = None
mesh_row m spots (Some Over) = None
mesh_row m spots (Some (Running mesh)) = Some (record {
  class = mesh.class;
  source = mesh.source;
  destination = mesh.destination;
  progress = Moves mesh.made (copied_slots m spots mesh);
})
