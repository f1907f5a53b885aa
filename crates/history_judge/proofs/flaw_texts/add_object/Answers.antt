use Rattle.std.proofs.Common.{ℕ, ◌+◌, ◌++◌, ◌∙◌, ap, decimal}
use Rattle.std.proofs.lemmas.Result.{on_ok_weaker}
use Rattle.history_judge.proofs.JudgementTexts.{object_told}
use Rattle.history_judge.proofs.flaw_texts.add_object.Goals as goal

pub returns : goal.returns
returns c =
    let one = c.extend_from_slice.new.self.items in let three = c.extend_from_slice-2.new.self.items in let five = c.extend_from_slice-3.new.self.items in
    on_ok_weaker c.add_decimal-3.result (λ told. object_told _ one _ three _ five _ c.args.object
    c.in_ok-extend_from_slice.ensures.items
    (c.in_ok-add_decimal.ensures ∙ ap (λ (n : ℕ). one ++ decimal n) c.from.ensures)
    c.in_ok-extend_from_slice-2.ensures.items
    (c.in_ok-add_decimal-2.ensures ∙ ap (λ (n : ℕ). three ++ decimal n) c.from-2.ensures)
    c.in_ok-extend_from_slice-3.ensures.items
    (told ∙ ap (λ (n : ℕ). five ++ decimal (n + 2)) c.from-3.ensures)) c.add_decimal-3.ensures
