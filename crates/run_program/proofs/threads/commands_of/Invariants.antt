use Rattle.std.proofs.Common.{◌≡◌, take}
use Rattle.run_program.proofs.threads.commands_of.Given as goal

abbrev pub invariant-loop-worker : goal.invariant-loop-worker
invariant-loop-worker l = l.all.items ≡ take l.worker l.scripts
