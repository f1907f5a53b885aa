-- The stage of the mesh from each group, by the list of running meshes.
use Rattle.std.specs.Prelude.{ℕ, ◌+◌, ◌-◌, ◌*◌, if◌then◌else◌, nat_eq, nat_le, min, List, Option, Some, None, find}
use Rattle.mesh_class.specs.Classes.{slots_of}
use Rattle.model_heap.specs.Table.{Made, Mesh, Progress, Unwinding}
use Rattle.mesh_page_heap.specs.Layout.{Layout, Stage, idle, page_total}

-- how many slots of a mesh count as copied after `d` steps: none after the first unprotect
abbrev pub copied_after : ℕ → ℕ → ℕ → ℕ
copied_after total slots d = if nat_le d (2 * total + slots) then min (d - total) slots else 0

-- the stage of a mesh at a progress: its source has `total` virtual pages and `slots` slots, and its destination is
-- `into`
abbrev pub stage_at : ℕ → ℕ → ℕ → Progress → Stage
stage_at total slots into (Made d) = record {
  into = into;
  locked_from = min (d - (2 * total + slots)) total;
  locked_to = min d total;
  copied = copied_after total slots d;
  remapped = min (d - (total + slots)) total;
  released = d - (3 * total + slots);
}
stage_at total slots into (Unwinding q u) = record { into = into; locked_from = u; locked_to = q; copied = 0; remapped = 0; released = 0 }

-- the mesh from group `n`, if there is one
abbrev pub mesh_from : ℕ → List Mesh → Option Mesh
mesh_from n meshes = find (λ mesh. nat_eq mesh.source n) meshes

-- the stage of a group, by the mesh from it, if there is one
abbrev pub stage_with : Layout → ℕ → Option Mesh → Stage
stage_with l n None = idle n
stage_with l n (Some mesh) = stage_at (page_total l n) (slots_of (l.class n)) mesh.destination mesh.progress

-- the stage of a group, by the list of running meshes
abbrev pub stage_of : Layout → List Mesh → ℕ → Stage
stage_of l meshes n = stage_with l n (mesh_from n meshes)
