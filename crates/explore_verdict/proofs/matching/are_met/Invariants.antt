use Rattle.std.proofs.Common.{◌≡◌, length}
use Rattle.explore_verdict.specs.Patterns.{are_met}
use Rattle.explore_verdict.proofs.matching.are_met.Given as goal

abbrev pub invariant-loop-piece : goal.invariant-loop-piece
invariant-loop-piece l = are_met l.pieces l.replies ≡ are_met l.initial.pieces l.initial.replies

abbrev pub decreases-loop-piece : goal.decreases-loop-piece
decreases-loop-piece l = length l.pieces
