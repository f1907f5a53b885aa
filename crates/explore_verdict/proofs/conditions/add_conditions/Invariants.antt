use Rattle.std.proofs.Common.{◌≡◌, ◌++◌, ◌&&◌, List, length}
use Rattle.explore_verdict.specs.Conditions.{all_hold, conditions_pieces}
use Rattle.explore_verdict.specs.Pieces.{HasWritten, Piece}
use Rattle.explore_verdict.proofs.conditions.add_conditions.Given as goal

abbrev pub invariant-loop-rest : goal.invariant-loop-rest
invariant-loop-rest l =
    let states = l.reached.system.states in
    record {
      hold : (l.hold && all_hold states l.outcomes l.rest) ≡ all_hold states l.outcomes l.conditions;
      pieces : List Piece;
      written : HasWritten l.reached.system.setting l.reached pieces l.initial.text.items l.text.items;
      all : pieces ++ conditions_pieces states l.outcomes l.rest ≡ conditions_pieces states l.outcomes l.conditions;
    }

abbrev pub decreases-loop-rest : goal.decreases-loop-rest
decreases-loop-rest l = length l.rest
