use Rattle.std.proofs.Common.{◌≡◌, ◌++◌, length}
use Rattle.std.specs.List.{flat_map}
use Rattle.draw_text.specs.Rows.{mesh_line}
use Rattle.draw_text.proofs.point.add_meshes.Given as goal

abbrev pub invariant-loop-rest : goal.invariant-loop-rest
invariant-loop-rest l = l.text.items ++ flat_map mesh_line l.rest ≡ l.initial.text.items ++ flat_map mesh_line l.meshes

abbrev pub decreases-loop-rest : goal.decreases-loop-rest
decreases-loop-rest l = length l.rest
