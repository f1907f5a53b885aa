use Rattle.std.proofs.Common.{◌≡◌, ◌++◌}
use Rattle.draw_job.specs.Frames.{below, listed, object_row}
use Rattle.draw_job.proofs.shown.add_member_objects.Given as goal

abbrev pub invariant-loop-slot : goal.invariant-loop-slot
invariant-loop-slot l = l.rows.items ≡ l.initial.rows.items ++ below l.slot (λ k. listed (object_row l.heap l.group l.place l.first k))
