use Rattle.std.proofs.Common.{◌≡◌, ◌-◌, false}
use Rattle.history_reading.specs.EntryInputs.{lines_before}
use Rattle.savings_report.proofs.FollowedInputs.{HasGone}
use Rattle.savings_report.proofs.inputs.follow.Given as goal

abbrev pub invariant-loop-entry : goal.invariant-loop-entry
invariant-loop-entry g l = record {
  input : g.I.Source.has_failed l.input ≡ false;
  gone : HasGone l.history l.initial.run l.run (g.I.Source.remaining l.initial.input) (g.I.Source.remaining l.input);
}

abbrev pub decreases-loop-entry : goal.decreases-loop-entry
decreases-loop-entry g l = 4294967295 - lines_before l.history
