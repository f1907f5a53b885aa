use Rattle.std.proofs.Common.{◌≡◌, ◌++◌}
use Rattle.draw_picture.specs.Objects.{below}
use Rattle.draw_picture.specs.Objects.{slot_bound}
use Rattle.draw_picture.proofs.objects.add_slot_bounds.Given as goal

abbrev pub invariant-loop-slot : goal.invariant-loop-slot
invariant-loop-slot l = l.points.items ≡ l.initial.points.items ++ below l.slot (slot_bound l.class l.place l.page)
