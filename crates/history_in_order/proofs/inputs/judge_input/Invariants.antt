use Rattle.std.proofs.Common.{◌≡◌, ◌-◌, ◌^◌, false}
use Rattle.history_reading.specs.EntryInputs.{lines_before}
use Rattle.history_in_order.proofs.Entries.{HasTaken}
use Rattle.history_in_order.proofs.inputs.judge_input.Given as goal

abbrev pub invariant-loop-entry : goal.invariant-loop-entry
invariant-loop-entry g l = record {
  open_input : g.I.Source.has_failed l.input ≡ false;
  taken : HasTaken l.history l.memory (g.I.Source.remaining l.initial.input) (g.I.Source.remaining l.input);
}

abbrev pub decreases-loop-entry : goal.decreases-loop-entry
decreases-loop-entry g l = 2 ^ 32 - lines_before l.history
