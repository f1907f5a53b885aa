use Rattle.std.proofs.Common.{◌≡◌, ◌≤◌, ◌-◌, false, length, min}
use Rattle.mesh_text.specs.Turns.{StandsBehind}
use Rattle.draw_job.proofs.Described.{HasGathered}
use Rattle.draw_job.proofs.texts.write_points.Given as goal

abbrev pub invariant-loop-played : goal.invariant-loop-played
invariant-loop-played g l = record {
  last : l.end ≡ min l.to (length l.job.plan);
  few : l.played ≤ l.end;
  stands : StandsBehind l.job l.played l.turns;
  fresh : g.O.Sink.has_failed l.output ≡ false;
  gathered : HasGathered l.form l.from l.played l.job (g.O.Sink.written l.initial.output) (g.O.Sink.written l.output) l.text.items;
}

abbrev pub decreases-loop-played : goal.decreases-loop-played
decreases-loop-played g l = l.end - l.played
