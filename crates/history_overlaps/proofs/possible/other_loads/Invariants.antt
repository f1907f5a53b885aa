use Rattle.history_overlaps.specs.Possible.{AreOtherLoads}
use Rattle.history_overlaps.proofs.possible.other_loads.Given as goal

abbrev pub invariant-loop-number : goal.invariant-loop-number
invariant-loop-number l = AreOtherLoads l.len l.answered l.loads
