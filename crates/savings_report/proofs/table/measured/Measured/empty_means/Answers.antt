use Rattle.savings_report.specs.declared.table.samples.Sample.{Sample}
use Rattle.savings_report.proofs.FigureLemmas.{level_mean}
use Rattle.savings_report.proofs.table.measured.Measured.empty_means.Goals as goal

pub returns : goal.returns
returns c = λ first samples h.
    let levels = h.levels_are in
    let without = level_mean _ (λ (s : Sample). s.empty_without) samples _ _ levels.empty_without_is h.count_is c.mean.ensures.value in
    let with = level_mean _ (λ (s : Sample). s.empty_with) samples _ _ levels.empty_with_is h.count_is c.mean-2.ensures.value in
    rw (without, with)
