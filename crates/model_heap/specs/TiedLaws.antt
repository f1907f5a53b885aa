-- If a memory is tied to a table, the two are tied after every transition.
use Rattle.std.specs.Prelude.{◌≡◌, ℕ, ◌+◌, ◌≤◌, Bool, List, Option, Some, None, Ok, find, length}
use Rattle.model_memory.specs.Memory.{Memory, Object, next_serial, object_of, with_object, with_root}
use Rattle.model_heap.specs.Mesh.{Stepped, begin, cancel, mesh_whole, step}
use Rattle.model_memory.specs.Plain.{Named, made, stored}
use Rattle.model_heap.specs.Sound.{IsSound, IsTied}
use Rattle.model_heap.specs.Table.{Counted, Mesh, Placed, Table, place_new, sweep, without_object}

-- if a memory is tied to a table, the two are tied after a sweep
abbrev pub SweepKeepsTied : Type 0
SweepKeepsTied = (m : Memory) (t : Table) (n : ℕ) (swept : Counted) → IsTied m t → sweep t n ≡ Ok swept → IsTied m swept.table

-- if a memory is tied to a table, the two are tied after `begin`
abbrev pub BeginKeepsTied : Type 0
BeginKeepsTied = (m : Memory) (busy : Table → ℕ → Bool) (t : Table) (source destination : ℕ) (begun : Counted) → IsTied m t
    → begin busy t source destination ≡ Ok begun → IsTied m begun.table

-- if a memory is tied to a table, the two are tied after a whole mesh
abbrev pub WholeKeepsTied : Type 0
WholeKeepsTied = (m : Memory) (busy : Table → ℕ → Bool) (t : Table) (source destination : ℕ) (whole : Counted) → IsTied m t
    → mesh_whole busy t source destination ≡ Ok whole → IsTied m whole.table

-- if a memory is tied to a table, the two are tied after a cancel of any mesh
abbrev pub CancelKeepsTied : Type 0
CancelKeepsTied = (m : Memory) (t : Table) (which : Option Mesh) (cancelled : Counted) → IsTied m t → cancel t which ≡ Ok cancelled
    → IsTied m cancelled.table

-- if a memory is tied to a sound table, the two are tied after a step of the first mesh that passes any test
abbrev pub StepKeepsTied : Type 0
StepKeepsTied = (m : Memory) (t : Table) (test : Mesh → Bool) (stepped : Stepped) → IsSound t → IsTied m t
    → step t (find test t.meshes) ≡ Ok stepped → IsTied m stepped.table

-- if a memory is tied to a table, the two are tied after bytes are stored within a live object
abbrev pub StoreKeepsTied : Type 0
StoreKeepsTied = (m : Memory) (t : Table) (named : Named) (off : ℕ) (bytes : List ℕ) → object_of m named.serial ≡ Some named.object
    → off + length bytes ≤ length named.object.bytes → IsTied m t → IsTied (stored m named off bytes) t

-- if a memory is tied to a table, the two are tied after a cell gets another serial
abbrev pub RootKeepsTied : Type 0
RootKeepsTied = (m : Memory) (t : Table) (cell serial : ℕ) → IsTied m t → IsTied (with_root m cell serial) t

-- if a memory is tied to a table, the two are tied after a live object is freed
abbrev pub FreeKeepsTied : Type 0
FreeKeepsTied = (m : Memory) (t : Table) (serial : ℕ) (object : Object) → object_of m serial ≡ Some object → IsTied m t
    → IsTied (with_object m serial None) (without_object t serial)

-- if a memory is tied to a sound table, the two are tied after a new object
abbrev pub NewKeepsTied : Type 0
NewKeepsTied = (m : Memory) (t : Table) (cell len word : ℕ) (placed : Placed) → IsSound t → IsTied m t → place_new t len word (next_serial m) ≡ Ok placed
    → IsTied (made m cell len placed.address) placed.table
