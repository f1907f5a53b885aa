use Rattle.std.proofs.Common.{◌≡◌, [], replicate}
use Rattle.run_live.proofs.idle.idle_scripts.Given as goal

abbrev pub invariant-loop-made : goal.invariant-loop-made
invariant-loop-made l = l.scripts.items ≡ replicate l._made []
