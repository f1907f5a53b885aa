use Rattle.std.proofs.Common.{◌≡◌, ◌++◌, ◌∙◌, List, ℕ, ap, map, subst}
use Rattle.model_jobs.specs.Jobs.{Line}
use Rattle.explore_report.specs.OutcomeTexts.{outcome_line, plan_text}
use Rattle.explore_report.specs.Paths.{AreLinesTo}
use Rattle.explore_report.proofs.FoundOutcomes.{on_ok}
use Rattle.explore_report.proofs.OutcomeTexts.{outcome_added}
use Rattle.explore_report.proofs.outcome_text.add_outcome.Goals as goal
use Rattle.text_job.specs.Plan.{line_of}

pub returns : goal.returns
returns c =
    let lines = map line_of c.in_ok-lines.lines.items in
    let line = c.in_ok-add_outcome_line.ensures ∙ ap (λ done. c.args.text.now.items ++ outcome_line c.args.number c.args.outcome.ways done) c.is_done.ensures in
    on_ok _ _ c.add_plan.result
    (λ plan. outcome_added c.args.reached.now.system.setting c.args.reached.now c.args.outcome c.args.number c.args.text.now.items _ _ _ _ lines
    c.in_ok-lines.ensures.lines line c.in_ok-add_told_at.ensures c.in_ok-add_end_at.ensures
    (plan ∙ ap (λ ls. c.add_end_at.new.text.items ++ plan_text (map line_of ls)) c.as_slice.ensures.value)) c.add_plan.ensures
