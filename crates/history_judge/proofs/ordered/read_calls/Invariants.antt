use Rattle.std.proofs.Common.{◌≡◌, ◌-◌, ◌^◌, false}
use Rattle.history_reading.specs.CallInputs.{lines_before}
use Rattle.history_judge.specs.OrderedHistories.{HaveComeSoFar}
use Rattle.history_judge.proofs.ordered.read_calls.Given as goal

abbrev pub invariant-loop-calls : goal.invariant-loop-calls
invariant-loop-calls g l = record {
  open_input : g.I.Source.has_failed l.input ≡ false;
  come : HaveComeSoFar l.history (g.I.Source.remaining l.initial.input) (g.I.Source.remaining l.input) l.calls.items;
}

abbrev pub decreases-loop-calls : goal.decreases-loop-calls
decreases-loop-calls g l = 2 ^ 32 - lines_before l.history
