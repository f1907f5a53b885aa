use Rattle.std.proofs.Common.{◌≡◌, ◌+◌, drop}
use Rattle.text_fields.specs.Lines.{texts}
use Rattle.otherwise_report.specs.StepLists.{no_words, words_added}
use Rattle.otherwise_report.proofs.step_list.list_of_words.Given as goal

abbrev pub invariant-loop-number : goal.invariant-loop-number
invariant-loop-number l = words_added (l.number + 1) l.draft (texts (drop l.number l.words)) ≡ words_added 1 no_words (texts l.words)
