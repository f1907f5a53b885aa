use Rattle.std.proofs.Common.{◌≡◌, take, true}
use Rattle.std.specs.List.{list_all}
use Rattle.explore_verdict.specs.Mismatches.{is_answer}
use Rattle.explore_verdict.proofs.mismatches.are_answers.Given as goal

abbrev pub invariant-loop-piece : goal.invariant-loop-piece
invariant-loop-piece l = list_all is_answer (take l.piece-index l.pieces) ≡ true
