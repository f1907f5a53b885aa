use Rattle.std.proofs.Common.{ap, subst, ◌∙◌}
use Rattle.draw_picture.specs.Cards.{before, card_text}
use Rattle.draw_picture.specs.Pictures.{Shown}
use Rattle.draw_picture.specs.declared.layout.Layout.{Layout}
use Rattle.draw_svg.specs.Texts.{Adds}
use Rattle.draw_picture.proofs.picture.Picture.point.Goals as goal

pub returns-clause-drawn : goal.returns-clause-drawn
returns-clause-drawn c =
    let gathering = c.add.new.self in
    let frame = c.args.frame.now in
    let area = c.in_ok-draw.ensures.area in
    record {
      gathering = gathering;
      ends = c.in_ok-add.ensures.ends;
      last = c.add.ensures.last ∙ ap (λ (p : Shown). p.gathering.last) c.self.view_is;
      begun = c.add.ensures.begun ∙ ap (λ (p : Shown). p.gathering.begun) c.self.view_is;
      area = area;
      adds =
          subst (λ (layout : Layout). Adds c.args.text.now c.draw.new.text (card_text gathering layout frame (before gathering frame) area))
          (ap (λ (p : Shown). p.layout) c.self.view_is) c.in_ok-draw.ensures.adds;
    }
