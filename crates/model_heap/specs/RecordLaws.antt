-- The mesher changes no live object's record, so no object gets another address.
use Rattle.std.specs.Prelude.{◌≡◌, ℕ, Bool, Option, Ok, find}
use Rattle.model_memory.specs.Memory.{Memory}
use Rattle.model_heap.specs.Mesh.{Stepped, begin, cancel, mesh_whole, step}
use Rattle.model_heap.specs.Places.{record_with, records_of}
use Rattle.model_heap.specs.Sound.{IsSound, IsTied}
use Rattle.model_heap.specs.Table.{Counted, Mesh, Table, sweep}
use Rattle.model_heap.specs.TableLaws.{IsBusyTest}

-- each serial has the same record in both tables
abbrev pub KeepsRecords : Table → Table → Type 0
KeepsRecords t u = (serial : ℕ) → record_with serial (records_of u) ≡ record_with serial (records_of t)

-- if two sound tables are tied to one memory, each serial has the same record in both tables
abbrev pub TiedHaveSameRecords : Type 0
TiedHaveSameRecords = (m : Memory) (t u : Table) → IsSound t → IsSound u → IsTied m t → IsTied m u → KeepsRecords t u

-- `begin` changes no record
abbrev pub BeginKeepsRecords : Type 0
BeginKeepsRecords = (busy : Table → ℕ → Bool) (t : Table) (source destination : ℕ) (begun : Counted) → begin busy t source destination ≡ Ok begun
    → KeepsRecords t begun.table

-- a cancel of any mesh changes no record
abbrev pub CancelKeepsRecords : Type 0
CancelKeepsRecords = (t : Table) (which : Option Mesh) (cancelled : Counted) → cancel t which ≡ Ok cancelled → KeepsRecords t cancelled.table

-- a sweep of a sound table changes no record
abbrev pub SweepKeepsRecords : Type 0
SweepKeepsRecords = (t : Table) (n : ℕ) (swept : Counted) → IsSound t → sweep t n ≡ Ok swept → KeepsRecords t swept.table

-- if a sound table is tied to a memory, so that no serial occurs twice, a step of any kind changes no record. The step
-- is of the first mesh that passes any test
abbrev pub StepKeepsRecords : Type 0
StepKeepsRecords = (m : Memory) (t : Table) (test : Mesh → Bool) (stepped : Stepped) → IsSound t → IsTied m t
    → step t (find test t.meshes) ≡ Ok stepped → KeepsRecords t stepped.table

-- if a sound table with a test of busy classes is tied to a memory, a whole mesh changes no record
abbrev pub WholeKeepsRecords : Type 0
WholeKeepsRecords = (m : Memory) (busy : Table → ℕ → Bool) (t : Table) (source destination : ℕ) (whole : Counted) → IsBusyTest busy t → IsSound t
    → IsTied m t → mesh_whole busy t source destination ≡ Ok whole → KeepsRecords t whole.table
