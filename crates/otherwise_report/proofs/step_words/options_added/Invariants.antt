use Rattle.std.proofs.Common.{◌≡◌, length}
use Rattle.otherwise_report.specs.StepWords.{options_added, parts_between}
use Rattle.otherwise_report.proofs.step_words.options_added.Given as goal

abbrev pub invariant-loop-option : goal.invariant-loop-option
invariant-loop-option l = options_added (parts_between 58 l.rest) l.word ≡ options_added (parts_between 58 l.options) l.initial.word

abbrev pub decreases-loop-option : goal.decreases-loop-option
decreases-loop-option l = length l.rest
