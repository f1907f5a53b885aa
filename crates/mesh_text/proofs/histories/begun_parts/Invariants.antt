use Rattle.std.proofs.Common.{◌≡◌, map}
use Rattle.std.specs.List.{range_with_len}
use Rattle.std.specs.Vec.{vec_items}
use Rattle.mesh_text.specs.Histories.{worker_line}
use Rattle.mesh_text.proofs.histories.begun_parts.Given as goal

abbrev pub invariant-loop-worker : goal.invariant-loop-worker
invariant-loop-worker l = map vec_items l.parts.items ≡ map worker_line (range_with_len 0 l.worker)
