use Rattle.std.proofs.lemmas.Result.{on_ok_weaker}
use Rattle.mesh_text.proofs.PartTexts.{wrote_report}
use Rattle.mesh_text.proofs.answers.add_report.Goals as goal

pub returns : goal.returns
returns c =
    on_ok_weaker c.add_count-5.result (wrote_report _ _ _ _ _ _ _ c.in_ok-add_count.ensures c.in_ok-add_count-2.ensures c.in_ok-add_count-3.ensures
    c.in_ok-add_count-4.ensures)
    c.add_count-5.ensures
