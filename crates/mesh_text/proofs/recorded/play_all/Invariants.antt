use Rattle.mesh_text.specs.Turns.{StandsBehind}
use Rattle.mesh_text.proofs.recorded.play_all.Given as goal

abbrev pub invariant-loop-place : goal.invariant-loop-place
invariant-loop-place l = StandsBehind l.job l.place l.turns
