use Rattle.std.proofs.Common.{OnOk, Option, subst, sym}
use Rattle.explore_report.specs.declared.outcomes.Outcome.{Outcome}
use Rattle.explore_verdict.specs.Pieces.{HasWritten}
use Rattle.explore_verdict.specs.Runs.{shown_at}
use Rattle.explore_verdict.proofs.report.add_shown_at.Goals as goal

pub returns-in-Some : goal.returns-in-Some
returns-in-Some c =
    subst (λ (outcome : Option Outcome). OnOk c.add_shown.result (HasWritten c.args.reached.now.system.setting c.args.reached.now
    (shown_at c.args.number outcome) c.args.text.now.items c.add_shown.new.text.items))
    (sym c.in-Some.is) c.add_shown.ensures
