use Rattle.std.proofs.Common.{◌≡◌, ◌++◌, length}
use Rattle.draw_picture.specs.Occupancy.{rows_text}
use Rattle.draw_picture.proofs.occupancy.write_rows.Given as goal

abbrev pub invariant-loop-rest : goal.invariant-loop-rest
invariant-loop-rest l = l.text.items ++ rows_text l.frame l.row l.rest ≡ l.initial.text.items ++ rows_text l.frame 0 l.members

abbrev pub decreases-loop-rest : goal.decreases-loop-rest
decreases-loop-rest l = length l.rest
