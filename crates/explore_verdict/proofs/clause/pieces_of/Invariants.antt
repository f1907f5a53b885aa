use Rattle.std.proofs.Common.{◌≡◌, ◌++◌, length, nat_eq}
use Rattle.std.specs.List.{slice_split}
use Rattle.explore_verdict.specs.Patterns.{pieces_of}
use Rattle.explore_verdict.proofs.clause.pieces_of.Given as goal

abbrev pub invariant-loop-piece : goal.invariant-loop-piece
invariant-loop-piece l = l.pieces.items ++ slice_split (λ b. nat_eq b 124) l.rest ≡ pieces_of l.answers

abbrev pub decreases-loop-piece : goal.decreases-loop-piece
decreases-loop-piece l = length l.rest
