use Rattle.savings_report.specs.FigureSamples.{peak}
use Rattle.savings_report.specs.declared.table.samples.Sample.{Sample}
use Rattle.savings_report.proofs.FigureLemmas.{row_is, total_level}
use Rattle.savings_report.proofs.table.measured.Measured.peaks.Goals as goal

pub returns-clause-value : goal.returns-clause-value
returns-clause-value c = λ first samples h.
    let without = total_level _ (λ (s : Sample). s.without) samples h.without_is in
    let with = total_level _ (λ (s : Sample). s.with) samples h.with_is in
    let perfect = total_level _ (λ (s : Sample). s.perfect) samples h.perfect_is in
    let levels = h.levels_are in
    row_is peak samples _ _ _ _ _ _ _ without.peak_is with.peak_is perfect.peak_is levels.live_is.peak_is levels.large_is.peak_is
    levels.all_without_is.peak_is levels.all_with_is.peak_is
