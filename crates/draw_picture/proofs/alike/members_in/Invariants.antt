use Rattle.std.proofs.Common.{◌≡◌, length}
use Rattle.draw_picture.specs.Numbers.{counted}
use Rattle.draw_picture.specs.Alike.{is_of, members_in}
use Rattle.draw_picture.proofs.alike.members_in.Given as goal

abbrev pub invariant-loop-rest : goal.invariant-loop-rest
invariant-loop-rest l = counted (is_of l.group) l.count l.rest ≡ members_in l.frame l.group

abbrev pub decreases-loop-rest : goal.decreases-loop-rest
decreases-loop-rest l = length l.rest
