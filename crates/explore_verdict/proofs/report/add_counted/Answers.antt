use Rattle.std.proofs.Common.{◌∙◌, ◌++◌, List, ℕ, ap, sym}
use Rattle.std.specs.Prelude.{codes}
use Rattle.model_jobs.specs.Texts.{ended}
use Rattle.explore_verdict.proofs.PiecesMore.{counted_answers, counted_outcomes}
use Rattle.explore_verdict.proofs.report.add_counted.Goals as goal

pub returns-in_ok-add_count : goal.returns-in_ok-add_count
returns-in_ok-add_count c =
    c.in_ok-add_count.ensures
    ∙ ap (λ (t : List ℕ). c.args.text.now.items ++ ended (codes "as expected: " ++ t))
    (sym (counted_answers c.args.blocks.now c.args.outcomes c.args.answers (sym c.is_empty.ensures ∙ c.if-is_empty.true)))

pub returns-in_ok-add_count-2 : goal.returns-in_ok-add_count-2
returns-in_ok-add_count-2 c =
    c.in_ok-add_count-2.ensures
    ∙ ap (λ (t : List ℕ). c.args.text.now.items ++ ended (codes "as expected: " ++ t))
    (sym (counted_outcomes c.args.blocks.now c.args.outcomes c.args.answers (sym c.is_empty.ensures ∙ c.if-is_empty.false)))
