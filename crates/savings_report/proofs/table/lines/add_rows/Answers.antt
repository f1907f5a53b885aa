use Rattle.std.proofs.lemmas.Result.{on_ok_weaker}
use Rattle.savings_report.specs.FigureTexts.{rows}
use Rattle.savings_report.proofs.FigureLemmas.{five_pieces}
use Rattle.savings_report.proofs.table.lines.add_rows.Goals as goal

pub returns : goal.returns
unfolding rows
returns c = λ first samples h.
    let peaks = rw (c.peaks.ensures.value first samples h) at c.in_ok-add_row.ensures in
    let means = rw (c.means.ensures.value first samples h) at c.in_ok-add_row-2.ensures in
    let live = rw c.row_at.ensures.value at c.in_ok-add_row-3.ensures in
    let ends = rw (c.ends.ensures.value first samples h) at c.add_row-4.ensures in
    on_ok_weaker c.add_row-4.result (λ end. five_pieces _ _ _ _ _ _ _ _ _ _ _ c.in_ok-add_heading.ensures peaks means live end) ends
