use Rattle.std.proofs.Common.{◌≡◌, ◌++◌}
use Rattle.draw_job.specs.Frames.{below, first_in, leads_of_member, listing}
use Rattle.draw_job.proofs.shown.add_leads.Given as goal

abbrev pub invariant-loop-place : goal.invariant-loop-place
invariant-loop-place l = l.rows.items ≡ l.initial.rows.items ++ below l.place (λ place. listing (first_in l.heap l.group place) (leads_of_member l.heap l.class))
