use Rattle.std.proofs.Common.{◌≡◌, ◌-◌, [], slice_index_or}
use Rattle.text_fields.specs.Lines.{line_fields}
use Rattle.run_program.proofs.steps.word_of.Given as goal

abbrev pub invariant-loop-left : goal.invariant-loop-left
invariant-loop-left l = slice_index_or (line_fields l.rest) l.left [] ≡ slice_index_or (line_fields l.list) (l.number - 1) []

abbrev pub decreases-loop-left : goal.decreases-loop-left
decreases-loop-left l = l.left
