use Rattle.std.proofs.Common.{◌≡◌, take}
use Rattle.mesh_shared.specs.Runs.{commands_in}
use Rattle.mesh_shared.proofs.worker.work.Given as goal

abbrev pub invariant-loop-i : goal.invariant-loop-i
invariant-loop-i g l = (commands_in l.seat.calls ≡ take l.i l.script) × (l.i ≡ 0 → l.blocked ≡ 0)
