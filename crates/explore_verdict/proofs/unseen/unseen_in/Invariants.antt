use Rattle.std.proofs.Common.{◌≡◌, length}
use Rattle.explore_verdict.specs.Unseen.{unseen_in}
use Rattle.explore_verdict.proofs.unseen.unseen_in.Given as goal

abbrev pub invariant-loop-rest : goal.invariant-loop-rest
invariant-loop-rest l = unseen_in l.states.states l.outcomes l.rest ≡ unseen_in l.states.states l.outcomes l.clauses

abbrev pub decreases-loop-rest : goal.decreases-loop-rest
decreases-loop-rest l = length l.rest
