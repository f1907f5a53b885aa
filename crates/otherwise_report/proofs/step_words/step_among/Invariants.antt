use Rattle.std.proofs.Common.{◌≡◌, drop, find}
use Rattle.otherwise_report.specs.StepWords.{is_named}
use Rattle.otherwise_report.proofs.step_words.step_among.Given as goal

abbrev pub invariant-loop-step : goal.invariant-loop-step
invariant-loop-step l = find (is_named l.word) (drop l.step-index l.steps) ≡ find (is_named l.word) l.steps
