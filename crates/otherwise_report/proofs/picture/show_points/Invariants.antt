use Rattle.std.proofs.Common.{◌≡◌}
use Rattle.otherwise_report.proofs.picture.show_points.Given as goal

-- as many points are taken
abbrev pub invariant-loop-number : goal.invariant-loop-number
invariant-loop-number g l = g.P.Painter.next l.painter ≡ l.number
