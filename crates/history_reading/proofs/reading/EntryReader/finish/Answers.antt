use Rattle.std.proofs.Common.{List, ap, sym, ℕ, ◌∙◌}
use Rattle.history_reading.specs.Readings.{ends_with}
use Rattle.text_devices.specs.Ends.{end_fault}
use Rattle.history_reading.proofs.Readings.{finished}
use Rattle.history_reading.proofs.reading.EntryReader.finish.Goals as goal

pub returns-in-Some-clause-fault : goal.returns-in-Some-clause-fault
returns-in-Some-clause-fault c =
    finished c.args.self.now ∙ ap (λ (rest : List ℕ). ends_with (end_fault c.args.self.now.lines rest)) (sym c.as_slice.ensures) ∙ ap ends_with (sym c.in-Some.ensures)
