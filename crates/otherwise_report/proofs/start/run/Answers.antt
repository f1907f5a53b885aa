use Rattle.std.proofs.Common.{Some, refl, rules, sym, ◌∙◌}
use Rattle.otherwise_report.proofs.PlayedLines.{unanswered}
use Rattle.otherwise_report.specs.PlanStarts.{plan_setting, state_of_start}
use Rattle.otherwise_report.proofs.start.run.Goals as goal

pub returns-in_default-tried : goal.returns-in_default-tried
returns-in_default-tried c =
    unanswered (plan_setting c.args.job.now) (state_of_start c.args.start.now) _ c.args.worker c.in-Some.command c.in_ok-tried.tried refl
    (sym c.command_of.ensures.command ∙ c.in-Some.is) (search rules) (λ reply is. c.in_default-tried.not-Answered reply is)
