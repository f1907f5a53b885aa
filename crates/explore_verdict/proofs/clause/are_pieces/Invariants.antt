use Rattle.std.proofs.Common.{◌≡◌, take, true}
use Rattle.std.specs.List.{list_all}
use Rattle.explore_verdict.specs.Patterns.{is_piece}
use Rattle.explore_verdict.proofs.clause.are_pieces.Given as goal

abbrev pub invariant-loop-piece : goal.invariant-loop-piece
invariant-loop-piece l = list_all is_piece (take l.piece-index l.pieces) ≡ true
