use Rattle.std.proofs.Common.{◌≡◌, ◌+◌, ◌++◌}
use Rattle.draw_job.specs.Frames.{below, lead_row, listed}
use Rattle.draw_job.proofs.shown.add_member_leads.Given as goal

abbrev pub invariant-loop-place : goal.invariant-loop-place
invariant-loop-place l = l.rows.items ≡ l.initial.rows.items ++ below l.place (λ i. listed (lead_row l.heap (l.first + i)))
