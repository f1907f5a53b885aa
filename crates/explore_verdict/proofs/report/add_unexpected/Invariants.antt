use Rattle.std.proofs.Common.{◌≡◌, ◌+◌, ◌++◌, ◌≤◌, List, length}
use Rattle.explore_verdict.specs.Pieces.{HasWritten, Piece}
use Rattle.explore_verdict.specs.Runs.{unexpected_pieces}
use Rattle.explore_verdict.proofs.report.add_unexpected.Given as goal

abbrev pub invariant-loop-rest : goal.invariant-loop-rest
invariant-loop-rest l = record {
  pieces : List Piece;
  written : HasWritten l.reached.system.setting l.reached pieces l.initial.text.items l.text.items;
  all : pieces ++ unexpected_pieces l.outcomes l.flags l.number l.rest ≡ unexpected_pieces l.outcomes l.flags 0 l.order;
  few : l.number + length l.rest ≤ length l.order;
}

abbrev pub decreases-loop-rest : goal.decreases-loop-rest
decreases-loop-rest l = length l.rest
