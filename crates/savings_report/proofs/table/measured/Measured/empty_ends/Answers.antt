use Rattle.std.proofs.Common.{refl}
use Rattle.savings_report.specs.declared.table.samples.Sample.{Sample}
use Rattle.savings_report.proofs.FigureLemmas.{last_of}
use Rattle.savings_report.proofs.table.measured.Measured.empty_ends.Goals as goal

pub returns : goal.returns
returns c = λ first samples h.
    let without = last_of (λ (s : Sample). s.empty_without) samples _ _ h.end_is refl c.from.ensures in
    let with = last_of (λ (s : Sample). s.empty_with) samples _ _ h.end_is refl c.from-2.ensures in
    rw (without, with)
