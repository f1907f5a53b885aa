use Rattle.std.proofs.Common.{◌≡◌, ◌+◌, ◌<◌, ◌^◌}
use Rattle.history_witness.specs.TakenLines.{taken_below, taken_in}
use Rattle.history_witness.proofs.lines.line_among.Given as goal

abbrev pub invariant-loop-place : goal.invariant-loop-place
invariant-loop-place l = l.number + 2 < 2 ^ 32 → l.line ≡ taken_below (taken_in l.taken) l.place + 2
