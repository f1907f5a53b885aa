use Rattle.std.proofs.Common.{◌≡◌, ◌&&◌, find, length, nat_eq}
use Rattle.draw_picture.specs.Pages.{home_of}
use Rattle.draw_picture.proofs.pages.home_of.Given as goal

abbrev pub invariant-loop-rest : goal.invariant-loop-rest
invariant-loop-rest l = find (λ home. nat_eq home.page l.page && home.taken) l.rest ≡ home_of l.frame l.page

abbrev pub decreases-loop-rest : goal.decreases-loop-rest
decreases-loop-rest l = length l.rest
