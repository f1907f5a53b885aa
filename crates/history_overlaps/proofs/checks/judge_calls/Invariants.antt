use Rattle.std.proofs.Common.{◌≡◌, ◌-◌, ◌^◌, false}
use Rattle.history_reading.specs.CallInputs.{lines_before}
use Rattle.history_overlaps.specs.Checks.{HasTaken}
use Rattle.history_overlaps.proofs.checks.judge_calls.Given as goal

abbrev pub invariant-loop-call : goal.invariant-loop-call
invariant-loop-call g l = record {
  open_input : g.I.Source.has_failed l.input ≡ false;
  taken : HasTaken l.history l.timeline (g.I.Source.remaining l.initial.input) (g.I.Source.remaining l.input);
}

abbrev pub decreases-loop-call : goal.decreases-loop-call
decreases-loop-call g l = 2 ^ 32 - lines_before l.history
