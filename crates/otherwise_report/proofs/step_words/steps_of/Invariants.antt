use Rattle.std.proofs.Common.{◌≡◌, map, take}
use Rattle.otherwise_report.proofs.step_words.steps_of.Given as goal

abbrev pub invariant-loop-word : goal.invariant-loop-word
invariant-loop-word l = l.steps.items ≡ map (λ word. word.step) (take l.word-index l.words)
