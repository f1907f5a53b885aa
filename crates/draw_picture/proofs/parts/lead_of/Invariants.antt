use Rattle.std.proofs.Common.{◌≡◌, find, length, nat_eq}
use Rattle.draw_picture.specs.Parts.{lead_of}
use Rattle.draw_picture.proofs.parts.lead_of.Given as goal

abbrev pub invariant-loop-rest : goal.invariant-loop-rest
invariant-loop-rest l = find (λ lead. nat_eq lead.virtual_page l.page) l.rest ≡ lead_of l.frame l.page

abbrev pub decreases-loop-rest : goal.decreases-loop-rest
decreases-loop-rest l = length l.rest
