use Rattle.std.proofs.Common.{◌≡◌, ◌-◌, ◌*◌, ◌+◌, ℕ, List, Option, false, length}
use Rattle.text_devices.specs.LineInputs.{HasCome, lines_of}
use Rattle.text_devices.specs.LineSteps.{HasBegun}
use Rattle.text_devices.proofs.lines.LineInput.read_line.Given as goal

abbrev pub invariant-loop-self : goal.invariant-loop-self
invariant-loop-self g l = record {
  input : g.I.Source.has_failed l.input ≡ false;
  count : lines_of l.self ≡ lines_of l.fn.self;
  begun : (left : Option (List ℕ)) (lines : List (List ℕ)) → HasCome l.fn.self left (g.I.Source.remaining l.fn.input) lines
      → HasBegun l.self left (g.I.Source.remaining l.input) lines;
}

abbrev pub decreases-loop-self : goal.decreases-loop-self
decreases-loop-self g l = 2 * (16384 - length l.self.line.bytes.items) + (1 - length l.self.pending)
