use Rattle.std.proofs.Common.{◌≡◌, ◌++◌, ◌∷◌, take}
use Rattle.std.specs.List.{flat_map}
use Rattle.otherwise_report.specs.StepWords.{step_name}
use Rattle.otherwise_report.proofs.plan_text.add_others.Given as goal

abbrev pub invariant-loop-step : goal.invariant-loop-step
invariant-loop-step l = l.text.items ≡ l.initial.text.items ++ flat_map (λ other. 43 ∷ step_name other) (take l.step-index l.steps)
