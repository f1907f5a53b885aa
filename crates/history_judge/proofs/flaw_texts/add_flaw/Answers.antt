use Rattle.std.proofs.Common.{ℕ, ◌+◌, ◌++◌, ◌∙◌, ap, decimal}
use Rattle.std.proofs.lemmas.Result.{on_ok_weaker}
use Rattle.history_judge.proofs.JudgementTexts.{overlap_told}
use Rattle.history_judge.proofs.flaw_texts.add_flaw.Goals as goal

pub returns-in_ok-extend_from_slice-in-Overlaps-2 : goal.returns-in_ok-extend_from_slice-in-Overlaps-2
returns-in_ok-extend_from_slice-in-Overlaps-2 c =
    let one = c.extend_from_slice-in-Overlaps.new.self.items in
    let three = c.extend_from_slice-in-Overlaps-2.new.self.items in
    on_ok_weaker c.add_decimal-in-Overlaps.result (λ told. overlap_told _ one _ three _ c.in-Overlaps.serial c.in-Overlaps.number _ c.in-Overlaps.is
    c.in_ok-extend_from_slice-in-Overlaps.ensures.items
    (c.in_ok-add_decimal-in-Overlaps.ensures ∙ ap (λ (n : ℕ). one ++ decimal n) c.from.ensures)
    c.in_ok-extend_from_slice-in-Overlaps-2.ensures.items
    (told ∙ ap (λ (n : ℕ). three ++ decimal (n + 2)) c.from-in-Overlaps.ensures)) c.add_decimal-in-Overlaps.ensures
