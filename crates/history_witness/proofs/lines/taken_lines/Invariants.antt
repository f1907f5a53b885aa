use Rattle.std.proofs.Common.{◌≡◌, ◌++◌, ◌+◌, drop}
use Rattle.text_fields.specs.Lines.{texts}
use Rattle.history_witness.specs.TakenLines.{is_kept, lines_at, taken_in}
use Rattle.history_witness.proofs.lines.taken_lines.Given as goal

abbrev pub invariant-loop-place : goal.invariant-loop-place
invariant-loop-place l = l.text.items ++ lines_at (λ i. is_kept (taken_in l.taken) (l.place + i)) (texts (drop l.place l.lines))
    ≡ lines_at (is_kept (taken_in l.taken)) (texts l.lines)
