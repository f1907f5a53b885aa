use Rattle.draw_svg.proofs.Adding.{adds_both}
use Rattle.draw_picture.proofs.style.add_rules.Goals as goal

pub returns : goal.returns
returns c = (_, adds_both c.args.text.now c.add_style.new.self c.add.new.self _ _ c.add_style.ensures c.add.ensures)
