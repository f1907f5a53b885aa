use Rattle.std.proofs.Common.{◌≡◌, find, length}
use Rattle.draw_picture.specs.Parts.{colour_of, groups_colour, has_page}
use Rattle.draw_picture.proofs.parts.groups_colour.Given as goal

abbrev pub invariant-loop-rest : goal.invariant-loop-rest
invariant-loop-rest l = colour_of (find (has_page l.page) l.rest) ≡ groups_colour l.frame l.page

abbrev pub decreases-loop-rest : goal.decreases-loop-rest
decreases-loop-rest l = length l.rest
