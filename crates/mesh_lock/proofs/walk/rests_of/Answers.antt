use Rattle.std.proofs.Common.{arith}
use Rattle.mesh_lock.proofs.MadeSeats.{calls_at, calls_more, kept_all}
use Rattle.mesh_lock.proofs.walk.rests_of.Goals as goal

pub loop-k-preserved : goal.loop-k-preserved
loop-k-preserved c = grind (arith, calls_more, calls_at)

pub returns-clause-kept : goal.returns-clause-kept
returns-clause-kept c = kept_all c.args.seats.now c.loop-k.k c.loop-k-test.false c.loop-k.invariant.kept
