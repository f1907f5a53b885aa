use Rattle.std.proofs.Common.{◌≡◌, ◌+◌, take}
use Rattle.run_program.specs.Threads.{command_count}
use Rattle.run_program.proofs.threads.has_room.Given as goal

abbrev pub invariant-loop-worker : goal.invariant-loop-worker
invariant-loop-worker l = l.room + command_count (take l.worker l.scripts) ≡ l.history
