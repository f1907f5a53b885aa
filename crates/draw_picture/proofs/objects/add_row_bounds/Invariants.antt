use Rattle.std.proofs.Common.{◌≡◌, ◌++◌}
use Rattle.draw_picture.specs.Objects.{below}
use Rattle.draw_picture.specs.Objects.{row_bound}
use Rattle.draw_picture.proofs.objects.add_row_bounds.Given as goal

abbrev pub invariant-loop-row : goal.invariant-loop-row
invariant-loop-row l = l.points.items ≡ l.initial.points.items ++ below l.row (row_bound l.rows l.page)
