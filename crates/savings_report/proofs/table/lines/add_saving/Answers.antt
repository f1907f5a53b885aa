use Rattle.std.proofs.Common.{◌∙◌}
use Rattle.std.proofs.lemmas.Result.{on_ok_weaker}
use Rattle.savings_report.specs.FigureTexts.{saving_text}
use Rattle.savings_report.proofs.FigureLemmas.{six_pieces}
use Rattle.savings_report.proofs.table.lines.add_saving.Goals as goal

pub returns : goal.returns
unfolding saving_text
returns c =
    let difference = rw (c.from-without.ensures, c.from-with.ensures) at c.in_ok-add_decimal.ensures in
    let without = rw c.from-without.ensures at c.in_ok-add_counted.ensures in
    let saved = rw (c.from-without.ensures, c.from-with.ensures) at c.in_ok-add_saved.ensures in
    let call = rw c.from.ensures at c.in_ok-add_counted-2.ensures in
    let live = rw (c.from-2.ensures ∙ c.whole_pages.ensures) at c.add_counted-3.ensures in
    on_ok_weaker c.add_counted-3.result
    (λ end. six_pieces _ _ _ _ _ _ _ _ _ _ _ _ _ difference without c.in_ok-add.ensures saved call end)
    live
