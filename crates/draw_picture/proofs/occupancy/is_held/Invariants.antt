use Rattle.std.proofs.Common.{◌≡◌, find, length}
use Rattle.std.specs.Option.{is_some}
use Rattle.draw_picture.specs.Occupancy.{holds, is_held}
use Rattle.draw_picture.proofs.occupancy.is_held.Given as goal

abbrev pub invariant-loop-rest : goal.invariant-loop-rest
invariant-loop-rest l = is_some (find (holds l.member) l.rest) ≡ is_held l.frame l.member

abbrev pub decreases-loop-rest : goal.decreases-loop-rest
decreases-loop-rest l = length l.rest
