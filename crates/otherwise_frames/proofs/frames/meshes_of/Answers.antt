use Rattle.std.proofs.Common.{[], ◌++◌, ap, slice_get, ◌∙◌}
use Rattle.otherwise_frames.specs.Copies.{mesh_row}
use Rattle.otherwise_frames.specs.Frames.{listed}
use Rattle.otherwise_frames.proofs.Listed.{rows_more}
use Rattle.otherwise_frames.proofs.frames.meshes_of.Goals as goal

pub loop-mesher-preserved : goal.loop-mesher-preserved
loop-mesher-preserved c =
    rows_more (λ mesher. listed (mesh_row c.args.memory.now c.args.heap.now.spots (slice_get c.args.stages.now mesher)))
    c.loop-mesher.mesher [] c.loop-mesher.rows.items c.add.new.rows.items c.loop-mesher.invariant
    (c.in_ok-add.ensures ∙ ap (λ row. c.loop-mesher.rows.items ++ listed row) c.mesh_row.ensures)
