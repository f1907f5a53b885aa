use Rattle.std.proofs.Common.{◌≡◌, ◌++◌, take}
use Rattle.explore_otherwise.specs.Settings.{setting_of}
use Rattle.otherwise_report.specs.PlanTexts.{plan_text}
use Rattle.otherwise_report.proofs.plan_text.add_plan.Given as goal

abbrev pub invariant-loop-origin : goal.invariant-loop-origin
invariant-loop-origin l =
    l.text.items ≡ l.initial.text.items ++ plan_text (setting_of l.setting) l.reached.system.states (take l.origin-index l.moves)
