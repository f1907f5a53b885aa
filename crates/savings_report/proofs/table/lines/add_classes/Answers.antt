use Rattle.std.proofs.Common.{arith, sym, ◌∙◌}
use Rattle.savings_report.specs.FigureTexts.{class_lines, used_line}
use Rattle.savings_report.proofs.FigureLemmas.{lines_step, lines_end}
use Rattle.savings_report.proofs.table.lines.add_classes.Goals as goal

pub loop-k-preserved : goal.loop-k-preserved
loop-k-preserved c = λ first samples h.
    let line = c.in_ok-add_if_used.ensures first samples h in
    lines_step (used_line c.args.used.now samples) c.loop-k.k c.loop-k.text.items c.add_if_used.new.text.items (omega arith) line
    ∙ c.loop-k.invariant first samples h

pub returns : goal.returns
unfolding class_lines
returns c = λ first samples h.
    sym (lines_end (used_line c.args.used.now samples) c.loop-k.k c.loop-k.text.items (omega arith)) ∙ c.loop-k.invariant first samples h
