use Rattle.std.proofs.Common.{◌≡◌, slice_get}
use Rattle.std.specs.List.{flat_map, range_with_len}
use Rattle.otherwise_frames.specs.Copies.{mesh_row}
use Rattle.otherwise_frames.specs.Frames.{listed}
use Rattle.otherwise_frames.proofs.frames.meshes_of.Given as goal

abbrev pub invariant-loop-mesher : goal.invariant-loop-mesher
invariant-loop-mesher l =
    l.rows.items
    ≡ flat_map (λ mesher. listed (mesh_row l.memory l.heap.spots (slice_get l.stages mesher))) (range_with_len 0 l.mesher)
