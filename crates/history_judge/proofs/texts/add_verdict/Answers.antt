use Rattle.std.proofs.Common.{ℕ, ◌++◌, ◌∙◌, ap, decimal}
use Rattle.std.proofs.lemmas.Result.{on_ok_weaker}
use Rattle.history_judge.proofs.JudgementTexts.{undecided_told}
use Rattle.history_judge.proofs.texts.add_verdict.Goals as goal

pub returns-in_ok-extend_from_slice-in-Undecided-2 : goal.returns-in_ok-extend_from_slice-in-Undecided-2
returns-in_ok-extend_from_slice-in-Undecided-2 c =
    let one = c.extend_from_slice-in-Undecided.new.self.items in
    on_ok_weaker c.add_undecided.result (λ told. undecided_told _ one _ _ _ c.args.most c.in-Undecided.line c.in-Undecided.fault _ c.in-Undecided.is
    c.in_ok-extend_from_slice-in-Undecided.ensures.items
    (c.in_ok-add_decimal-in-Undecided.ensures ∙ ap (λ (n : ℕ). one ++ decimal n) c.from-in-Undecided.ensures)
    c.in_ok-extend_from_slice-in-Undecided-2.ensures.items told) c.add_undecided.ensures
