use Rattle.std.proofs.Common.{◌≡◌, take}
use Rattle.mesh_shared.specs.Counts.{pairs_in, saturated}
use Rattle.mesh_shared.proofs.counts.number_of_pairs.Given as goal

abbrev pub invariant-loop-k : goal.invariant-loop-k
invariant-loop-k l = l.pairs ≡ saturated (pairs_in (take l.k l.found))
