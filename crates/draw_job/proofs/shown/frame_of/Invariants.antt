use Rattle.draw_job.specs.Frames.{ShowsBelow}
use Rattle.draw_job.proofs.shown.frame_of.Given as goal

abbrev pub invariant-loop-group : goal.invariant-loop-group
invariant-loop-group l = ShowsBelow l.heap l.group l.frame
