use Rattle.std.proofs.Common.{arith}
use Rattle.std.proofs.lemmas.Option.{slice_get-get_or}
use Rattle.mesh_lock.proofs.ComparedCalls.{no_entry}
use Rattle.mesh_lock.proofs.missing.has_stranger.Goals as goal

pub returns-then-worker-count-clause-some : goal.returns-then-worker-count-clause-some
returns-then-worker-count-clause-some c _ = grind (arith, slice_get-get_or c.args.journal.now.entries c.loop-n.n no_entry)
