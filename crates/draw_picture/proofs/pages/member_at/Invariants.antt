use Rattle.std.proofs.Common.{◌≡◌, find, length, nat_eq}
use Rattle.draw_picture.specs.Pages.{member_at}
use Rattle.draw_picture.proofs.pages.member_at.Given as goal

abbrev pub invariant-loop-rest : goal.invariant-loop-rest
invariant-loop-rest l = find (λ member. nat_eq member.first l.first) l.rest ≡ member_at l.frame l.first

abbrev pub decreases-loop-rest : goal.decreases-loop-rest
decreases-loop-rest l = length l.rest
