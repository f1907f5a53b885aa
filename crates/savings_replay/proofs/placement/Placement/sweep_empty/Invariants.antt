use Rattle.savings_replay.proofs.Swept.{IsSweptTo}
use Rattle.savings_replay.proofs.placement.Placement.sweep_empty.Given as goal

abbrev pub invariant-loop-n : goal.invariant-loop-n
invariant-loop-n l = IsSweptTo l.fn.self l.self l.n
