use Rattle.savings_report.specs.declared.table.samples.Sample.{Sample}
use Rattle.savings_report.proofs.FigureLemmas.{class_mean}
use Rattle.savings_report.proofs.table.measured.Measured.class_means.Goals as goal

pub returns : goal.returns
returns c = λ first samples h.
    let k = c.args.k in
    let of_without = rw c.sum_of.ensures at c.mean.ensures.value in
    let of_with = rw c.sum_of-2.ensures at c.mean-2.ensures.value in
    let of_perfect = rw c.sum_of-3.ensures at c.mean-3.ensures.value in
    let mean = class_mean _ (λ (s : Sample). s.without) samples k _ c.mean.result c.requires h.without_is h.count_is of_without in
    let mean_with = class_mean _ (λ (s : Sample). s.with) samples k _ c.mean-2.result c.requires h.with_is h.count_is of_with in
    let mean_perfect = class_mean _ (λ (s : Sample). s.perfect) samples k _ c.mean-3.result c.requires h.perfect_is h.count_is of_perfect in
    rw (mean, mean_with, mean_perfect)
