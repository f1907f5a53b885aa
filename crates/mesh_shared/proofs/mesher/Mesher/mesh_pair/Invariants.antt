use Rattle.std.proofs.Common.{◌≡◌}
use Rattle.mesh_shared.proofs.MesherCounts.{IsRunning}
use Rattle.mesh_shared.proofs.mesher.Mesher.mesh_pair.Given as goal

abbrev pub invariant-loop : goal.invariant-loop
invariant-loop g l = (l.calls.budget.most ≡ l.fn.calls.budget.most) × IsRunning l.fn.calls.counts l.calls.counts
