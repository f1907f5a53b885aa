use Rattle.std.proofs.lemmas.Result.{on_ok_weaker}
use Rattle.savings_report.specs.FigureTexts.{empty_line}
use Rattle.savings_report.proofs.FigureLemmas.{seven_pieces}
use Rattle.savings_report.proofs.table.lines.add_empty.Goals as goal

pub returns : goal.returns
unfolding empty_line
returns c = λ first samples h.
    let peaks = rw (c.empty_peaks.ensures first samples h) at c.in_ok-add_both.ensures in
    let means = rw (c.empty_means.ensures first samples h) at c.in_ok-add_both-2.ensures in
    let ends = rw (c.empty_ends.ensures first samples h) at c.in_ok-add_both-3.ensures in
    on_ok_weaker c.add-4.result
    (λ end. seven_pieces _ _ _ _ _ _ _ _ _ _ _ _ _ _ _ c.in_ok-add.ensures peaks c.in_ok-add-2.ensures means c.in_ok-add-3.ensures ends end)
    c.add-4.ensures
