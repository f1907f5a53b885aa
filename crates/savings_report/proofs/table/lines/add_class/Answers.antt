use Rattle.std.proofs.lemmas.Result.{on_ok_weaker}
use Rattle.savings_report.specs.FigureTexts.{class_line}
use Rattle.savings_report.proofs.FigureLemmas.{seven_pieces}
use Rattle.savings_report.proofs.table.lines.add_class.Goals as goal

pub returns : goal.returns
unfolding class_line
returns c =
    let size = rw (c.from.ensures, c.size.ensures.value) at c.in_ok-add_number_left.ensures in
    let means = c.in_ok-add_class_pages.ensures in
    let ends = c.in_ok-add_class_pages-2.ensures in
    on_ok_weaker c.add-4.result
    (λ end. seven_pieces _ _ _ _ _ _ _ _ _ _ _ _ _ _ _ c.in_ok-add.ensures size c.in_ok-add-2.ensures means c.in_ok-add-3.ensures ends end)
    c.add-4.ensures
