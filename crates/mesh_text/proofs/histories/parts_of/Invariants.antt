use Rattle.std.proofs.Common.{◌≡◌, map, take}
use Rattle.std.specs.List.{range_with_len}
use Rattle.std.specs.Vec.{vec_items}
use Rattle.mesh_text.specs.Histories.{worker_text}
use Rattle.mesh_text.proofs.histories.parts_of.Given as goal

abbrev pub invariant-loop-entry : goal.invariant-loop-entry
invariant-loop-entry l = map vec_items l.parts.items ≡ map (worker_text (take l.entry-index l.history)) (range_with_len 0 l.workers)
