use Rattle.savings_report.specs.FigureSamples.{all_with, all_without, live_pages, mean, total}
use Rattle.savings_report.specs.declared.table.samples.Sample.{Sample}
use Rattle.savings_report.proofs.FigureLemmas.{level_mean, row_is, total_level}
use Rattle.savings_report.proofs.table.measured.Measured.means.Goals as goal

pub returns-clause-value : goal.returns-clause-value
returns-clause-value c = λ first samples h.
    let count = h.count_is in
    let levels = h.levels_are in
    let without = total_level _ (λ (s : Sample). s.without) samples h.without_is in
    let with = total_level _ (λ (s : Sample). s.with) samples h.with_is in
    let perfect = total_level _ (λ (s : Sample). s.perfect) samples h.perfect_is in
    row_is mean samples _ _ _ _ _ _ _ (level_mean _ (λ (s : Sample). total s.without) samples _ _ without count c.mean.ensures.value)
    (level_mean _ (λ (s : Sample). total s.with) samples _ _ with count c.mean-2.ensures.value)
    (level_mean _ (λ (s : Sample). total s.perfect) samples _ _ perfect count c.mean-3.ensures.value)
    (level_mean _ live_pages samples _ _ levels.live_is count c.mean-4.ensures.value)
    (level_mean _ (λ (s : Sample). s.large_pages) samples _ _ levels.large_is count c.mean-5.ensures.value)
    (level_mean _ all_without samples _ _ levels.all_without_is count c.mean-6.ensures.value)
    (level_mean _ all_with samples _ _ levels.all_with_is count c.mean-7.ensures.value)
