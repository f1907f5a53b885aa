use Rattle.std.proofs.Common.{◌≡◌, ◌++◌}
use Rattle.draw_job.specs.Frames.{below, listed, home_row}
use Rattle.draw_job.proofs.shown.add_homes.Given as goal

abbrev pub invariant-loop-place : goal.invariant-loop-place
invariant-loop-place l = l.rows.items ≡ l.initial.rows.items ++ below l.place (λ i. listed (home_row l.heap l.group i))
