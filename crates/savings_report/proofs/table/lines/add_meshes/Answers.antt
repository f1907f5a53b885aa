use Rattle.std.proofs.lemmas.Result.{on_ok_weaker}
use Rattle.savings_report.specs.FigureTexts.{meshes_line}
use Rattle.savings_report.proofs.FigureLemmas.{eight_pieces}
use Rattle.savings_report.proofs.table.lines.add_meshes.Goals as goal

pub returns : goal.returns
unfolding meshes_line
returns c =
    let meshes = rw c.from.ensures at c.in_ok-add_counted.ensures in
    let refused = rw c.from-2.ensures at c.in_ok-add_counted-2.ensures in
    let copied = rw (c.divided.ensures.value, c.from-3.ensures) at c.in_ok-add_tenths.ensures in
    let rounds = rw c.from-4.ensures at c.in_ok-add_counted-3.ensures in
    let pages = rw c.from-5.ensures at c.in_ok-add_counted-5.ensures in
    on_ok_weaker c.add-2.result
    (λ end. eight_pieces _ _ _ _ _ _ _ _ _ _ _ _ _ _ _ _ _ meshes refused c.in_ok-add.ensures copied rounds c.in_ok-add_counted-4.ensures pages end)
    c.add-2.ensures
