use Rattle.std.proofs.Common.{◌≡◌, ◌+◌, ◌≤◌, length}
use Rattle.explore_verdict.specs.Unseen.{unseen_from}
use Rattle.explore_verdict.proofs.unseen.unseen_of.Given as goal

abbrev pub invariant-loop-rest : goal.invariant-loop-rest
invariant-loop-rest l = record {
  goes : unseen_from l.states.states l.outcomes l.worker l.place l.rest ≡ unseen_from l.states.states l.outcomes l.worker 0 l.pieces;
  few : l.place + length l.rest ≤ length l.pieces;
}

abbrev pub decreases-loop-rest : goal.decreases-loop-rest
decreases-loop-rest l = length l.rest
