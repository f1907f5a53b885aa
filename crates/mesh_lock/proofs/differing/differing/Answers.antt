use Rattle.std.proofs.Common.{arith}
use Rattle.mesh_lock.proofs.ComparedCalls.{recorded_at}
use Rattle.mesh_lock.proofs.differing.differing.Goals as goal

pub returns-in-Some-clause-differs : goal.returns-in-Some-clause-differs
returns-in-Some-clause-differs c = grind (arith, recorded_at)

pub loop-w-preserved : goal.loop-w-preserved
loop-w-preserved c v below_next = grind (arith, recorded_at)
