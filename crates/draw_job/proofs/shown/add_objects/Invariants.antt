use Rattle.std.proofs.Common.{◌≡◌, ◌++◌}
use Rattle.draw_job.specs.Frames.{below, first_in, listing, objects_of_member}
use Rattle.draw_job.proofs.shown.add_objects.Given as goal

abbrev pub invariant-loop-place : goal.invariant-loop-place
invariant-loop-place l = l.rows.items ≡ l.initial.rows.items ++ below l.place (λ place. listing (first_in l.heap l.group place) (objects_of_member l.heap l.group l.class place))
