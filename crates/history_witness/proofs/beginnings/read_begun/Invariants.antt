use Rattle.std.proofs.Common.{◌≡◌, ◌-◌, ◌^◌, false, map}
use Rattle.history_reading.specs.CallInputs.{HasCome, lines_before}
use Rattle.history_reading.specs.CallWords.{plain_call}
use Rattle.history_witness.proofs.beginnings.read_begun.Given as goal

abbrev pub invariant-loop-calls : goal.invariant-loop-calls
invariant-loop-calls g l = record {
  open_input : g.I.Source.has_failed l.input ≡ false;
  come : HasCome l.history (g.I.Source.remaining l.initial.input) (g.I.Source.remaining l.input) (map plain_call l.calls.items);
}

abbrev pub decreases-loop-calls : goal.decreases-loop-calls
decreases-loop-calls g l = 2 ^ 32 - lines_before l.history
