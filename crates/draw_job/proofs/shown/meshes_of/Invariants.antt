use Rattle.std.proofs.Common.{◌≡◌, slice_get}
use Rattle.std.specs.Option.{option_map}
use Rattle.mesh_steps.specs.Heap.{table_of}
use Rattle.draw_job.specs.Frames.{below, listed, mesh_row}
use Rattle.draw_job.proofs.shown.meshes_of.Given as goal

abbrev pub invariant-loop-place : goal.invariant-loop-place
invariant-loop-place l = l.rows.items ≡ below l.place (λ place. listed (option_map mesh_row (slice_get (table_of l.heap).meshes place)))
