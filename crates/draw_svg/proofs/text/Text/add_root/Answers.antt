use Rattle.draw_svg.proofs.Adding.{begins_file}
use Rattle.draw_svg.proofs.text.Text.add_root.Goals as goal

pub returns-clause-begins : goal.returns-clause-begins
returns-clause-begins c empty =
    begins_file c.args.self.now c.add_root_text.new.self c.args.title.now c.args.width c.args.height empty c.add_root_text.ensures
