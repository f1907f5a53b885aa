use Rattle.std.proofs.Common.{rules}
use Rattle.draw_job.proofs.Written.{none_written, written_on}
use Rattle.draw_job.proofs.points.show_points.Goals as goal

pub loop-played-init : goal.loop-played-init
loop-played-init g c = record {
  last = search rules;
  few = search rules;
  stands = search rules;
  next = search rules;
  wrote = none_written _;
  fresh = search rules;
}

pub loop-played-preserved-in-Continue-branch-3 : goal.loop-played-preserved-in-Continue-branch-3
loop-played-preserved-in-Continue-branch-3 g c = record {
  last = c.loop-played.invariant.last;
  few = search rules;
  stands = c.in_ok-show_point.ensures.stands;
  next = c.in_ok-show_point.ensures.next;
  wrote = written_on _ _ _ _ c.loop-played.invariant.wrote c.in_ok-write_out.ensures.wrote;
  fresh = c.in_ok-write_out.ensures.ok;
}
