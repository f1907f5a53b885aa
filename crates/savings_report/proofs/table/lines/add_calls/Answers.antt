use Rattle.std.proofs.lemmas.Result.{on_ok_weaker}
use Rattle.savings_report.specs.FigureTexts.{calls_line}
use Rattle.savings_report.proofs.FigureLemmas.{four_pieces}
use Rattle.savings_report.proofs.table.lines.add_calls.Goals as goal

pub returns : goal.returns
unfolding calls_line
returns c =
    let calls = rw c.from.ensures at c.in_ok-add_counted.ensures in
    let objects = rw c.from-2.ensures at c.in_ok-add_counted-2.ensures in
    let large = rw c.from-3.ensures at c.in_ok-add_counted-3.ensures in
    on_ok_weaker c.add.result (λ end. four_pieces _ _ _ _ _ _ _ _ _ calls objects large end) c.add.ensures
