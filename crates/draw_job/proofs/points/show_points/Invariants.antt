use Rattle.std.proofs.Common.{◌≡◌, ◌≤◌, ◌-◌, false, length, min}
use Rattle.mesh_text.specs.Turns.{StandsBehind}
use Rattle.draw_job.specs.Draws.{HasWritten}
use Rattle.draw_job.specs.Points.{next_shown}
use Rattle.draw_job.proofs.points.show_points.Given as goal

abbrev pub invariant-loop-played : goal.invariant-loop-played
invariant-loop-played g l = record {
  last : l.end ≡ min l.to (length l.job.plan);
  few : l.played ≤ l.end;
  stands : StandsBehind l.job l.played l.turns;
  next : g.P.Painter.next l.painter ≡ next_shown l.from l.played;
  wrote : HasWritten (g.O.Sink.written l.initial.output) (g.O.Sink.written l.output);
  fresh : g.O.Sink.has_failed l.output ≡ false;
}

abbrev pub decreases-loop-played : goal.decreases-loop-played
decreases-loop-played g l = l.end - l.played
