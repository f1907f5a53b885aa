use Rattle.std.proofs.Common.{◌≡◌, length}
use Rattle.draw_picture.specs.Numbers.{counted}
use Rattle.draw_picture.specs.Occupancy.{is_in, occupied}
use Rattle.draw_picture.proofs.occupancy.occupied.Given as goal

abbrev pub invariant-loop-rest : goal.invariant-loop-rest
invariant-loop-rest l = counted (is_in l.member) l.count l.rest ≡ occupied l.frame l.member

abbrev pub decreases-loop-rest : goal.decreases-loop-rest
decreases-loop-rest l = length l.rest
