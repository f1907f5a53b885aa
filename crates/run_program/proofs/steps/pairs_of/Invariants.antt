use Rattle.std.proofs.Common.{◌≡◌, map, take}
use Rattle.run_program.specs.Steps.{pair_asked}
use Rattle.run_program.proofs.steps.pairs_of.Given as goal

abbrev pub invariant-loop-mesh : goal.invariant-loop-mesh
invariant-loop-mesh l = l.pairs.items ≡ map pair_asked (take l.mesh-index l.meshes)
