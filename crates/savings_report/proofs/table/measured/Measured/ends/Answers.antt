use Rattle.std.proofs.Common.{ℕ, ◌+◌, ap, refl, ◌∙◌}
use Rattle.savings_report.specs.FigureSamples.{all_with, all_without, last, live_pages, total}
use Rattle.savings_report.specs.declared.table.samples.Sample.{Sample}
use Rattle.savings_report.proofs.FigureLemmas.{last_of, row_is}
use Rattle.savings_report.proofs.table.measured.Measured.ends.Goals as goal

pub returns-clause-value : goal.returns-clause-value
returns-clause-value c = λ first samples h.
    let large : ℕ → ℕ = λ n. n + c.args.self.now.end.large_pages in
    let without = c.from-without.ensures ∙ c.total_pages.ensures in
    let with = c.from-with.ensures ∙ c.total_pages-2.ensures in
    row_is last samples _ _ _ _ _ _ _ (last_of (λ (s : Sample). total s.without) samples _ _ h.end_is refl without)
    (last_of (λ (s : Sample). total s.with) samples _ _ h.end_is refl with)
    (last_of (λ (s : Sample). total s.perfect) samples _ _ h.end_is refl (c.from.ensures ∙ c.total_pages-3.ensures))
    (last_of live_pages samples _ _ h.end_is refl (c.from-2.ensures ∙ c.whole_pages.ensures))
    (last_of (λ (s : Sample). s.large_pages) samples _ _ h.end_is refl refl) (last_of all_without samples _ _ h.end_is refl (ap large without))
    (last_of all_with samples _ _ h.end_is refl (ap large with))
