use Rattle.std.proofs.Common.{List, ℕ, ap, codes, subst, ◌∙◌}
use Rattle.draw_svg.proofs.Adding.{begins_on}
use Rattle.draw_svg.specs.Files.{root_text}
use Rattle.draw_svg.specs.Texts.{Adds}
use Rattle.draw_picture.specs.Pictures.{Shown}
use Rattle.draw_picture.proofs.Heads.{head_is}
use Rattle.draw_picture.proofs.picture.Picture.head.Goals as goal

pub returns-clause-begins : goal.returns-clause-begins
returns-clause-begins c empty =
    begins_on c.add_rules.new.text c.add_top.new.text (codes "<svg") _
    (begins_on c.add_root.new.self c.add_rules.new.text (codes "<svg") _ (c.add_root.ensures.begins empty) c.add_rules.ensures.1)
    c.add_top.ensures.adds

pub returns-clause-head : goal.returns-clause-head
returns-clause-head c empty =
    let rooted = subst (λ (t : List ℕ). Adds c.args.text.now c.add_root.new.self (root_text t c.area-all.result.w c.area-all.result.h))
    (c.as_slice.ensures.value ∙ ap (λ (p : Shown). p.title) c.self.view_is) c.add_root.ensures.text in
    head_is c.args.self.now c.area-all.result.w c.area-all.result.h c.args.text.now c.add_root.new.self c.add_rules.new.text c.add_top.new.text
    c.add_rules.ensures.0 empty rooted c.add_rules.ensures.1 c.add_top.ensures
