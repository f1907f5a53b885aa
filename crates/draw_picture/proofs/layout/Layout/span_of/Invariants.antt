use Rattle.std.proofs.Common.{◌≡◌, find, length}
use Rattle.draw_picture.specs.Layouts.{has, span_of}
use Rattle.draw_picture.proofs.layout.Layout.span_of.Given as goal

abbrev pub invariant-loop-rest : goal.invariant-loop-rest
invariant-loop-rest l = find (has l.page) l.rest ≡ span_of l.self l.page

abbrev pub decreases-loop-rest : goal.decreases-loop-rest
decreases-loop-rest l = length l.rest
