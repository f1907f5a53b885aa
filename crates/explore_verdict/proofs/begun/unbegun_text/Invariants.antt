use Rattle.std.proofs.Common.{◌≡◌, ◌+◌, ◌++◌, length}
use Rattle.explore_verdict.specs.Begun.{unbegun_from, unbegun_text}
use Rattle.explore_verdict.proofs.begun.unbegun_text.Given as goal

abbrev pub invariant-loop-rest : goal.invariant-loop-rest
invariant-loop-rest l = record {
  told : l.text.items ++ unbegun_from l.phases l.mesher l.rest ≡ unbegun_text l.phases l.meshes;
  few : l.mesher + length l.rest ≡ length l.meshes;
}

abbrev pub decreases-loop-rest : goal.decreases-loop-rest
decreases-loop-rest l = length l.rest
