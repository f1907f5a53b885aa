use Rattle.std.proofs.Common.{◌≡◌, ◌-◌, ◌*◌, ◌+◌, ℕ, List, Option, false, length}
use Rattle.model_memory.specs.Plain.{Entry}
use Rattle.history_reading.specs.EntryInputs.{HasCome}
use Rattle.history_reading.specs.Readers.{bytes_left, next_line}
use Rattle.history_reading.proofs.entry_inputs.HistoryInput.next.Given as goal

abbrev pub invariant-loop-entry : goal.invariant-loop-entry
invariant-loop-entry g l = record {
  input : g.I.Source.has_failed l.input ≡ false;
  line : next_line l.self.reader ≡ next_line l.initial.self.reader;
  come : (left : Option (List ℕ)) (entries : List Entry) → HasCome l.initial.self left (g.I.Source.remaining l.initial.input) entries
      → HasCome l.self left (g.I.Source.remaining l.input) entries;
}

abbrev pub decreases-loop-entry : goal.decreases-loop-entry
decreases-loop-entry g l = 2 * bytes_left l.self.reader + (1 - length l.self.pending)
