use Rattle.std.proofs.Common.{◌≡◌, ◌++◌, length, option_map}
use Rattle.otherwise_report.specs.StepWords.{parts_between, steps_in}
use Rattle.otherwise_report.proofs.step_words.steps_in.Given as goal

abbrev pub invariant-loop-part : goal.invariant-loop-part
invariant-loop-part l = option_map (λ more. l.steps.items ++ more) (steps_in (parts_between 43 l.rest)) ≡ steps_in (parts_between 43 l.word)

abbrev pub decreases-loop-part : goal.decreases-loop-part
decreases-loop-part l = length l.rest
