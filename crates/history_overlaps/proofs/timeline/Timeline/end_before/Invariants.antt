use Rattle.std.proofs.Common.{length}
use Rattle.history_overlaps.specs.Ends.{AreEnded}
use Rattle.history_overlaps.proofs.timeline.Timeline.end_before.Given as goal

abbrev pub invariant-loop-number : goal.invariant-loop-number
invariant-loop-number l = record {
  ended : AreEnded l.initial.self l.self l.initial.moment;
}

abbrev pub decreases-loop-number : goal.decreases-loop-number
decreases-loop-number l = length l.self.waiting.entries
