use Rattle.std.proofs.Common.{◌∙◌, ◌++◌, List, ℕ, ap, sym}
use Rattle.std.specs.List.{flat_map}
use Rattle.std.proofs.lemmas.List.{take_all}
use Rattle.std.proofs.lemmas.List.Folds.{flat_map-map}
use Rattle.text_job.specs.JobTexts.{line_line}
use Rattle.text_job.proofs.job_text.add_plan_lines.Goals as goal
use Rattle.text_job.specs.Plan.{line_of}
use Rattle.text_job.specs.declared.plan.PlanLine.{PlanLine}

pub returns : goal.returns
returns c =
    c.loop-line.invariant
    ∙ ap (λ (lines : List PlanLine). c.args.text.now.items ++ flat_map (λ line. line_line (line_of line)) lines)
    (take_all c.loop-line.line-index c.args.lines.now c.loop-line-test.false)
    ∙ ap (λ (text : List ℕ). c.args.text.now.items ++ text) (sym (flat_map-map line_line line_of c.args.lines.now))
