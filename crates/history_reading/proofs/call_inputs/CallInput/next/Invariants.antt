use Rattle.std.proofs.Common.{◌≡◌, ◌-◌, ◌≤◌, ℕ, List, Option, false}
use Rattle.model_intervals.specs.Intervals.{Call}
use Rattle.history_reading.specs.CallInputs.{HasCome, lines_before}
use Rattle.history_reading.proofs.call_inputs.CallInput.next.Given as goal

abbrev pub invariant-loop-self : goal.invariant-loop-self
invariant-loop-self g l = record {
  input : g.I.Source.has_failed l.input ≡ false;
  later : lines_before l.fn.self ≤ lines_before l.self;
  come : (left : Option (List ℕ)) (calls : List Call) → HasCome l.fn.self left (g.I.Source.remaining l.fn.input) calls
      → HasCome l.self left (g.I.Source.remaining l.input) calls;
}

abbrev pub decreases-loop-self : goal.decreases-loop-self
decreases-loop-self g l = 1 - lines_before l.self
