use Rattle.std.proofs.Common.{ℕ, ◌+◌, ◌^◌, refl, ap, ◌∙◌, arith}
use Rattle.savings_report.specs.FigureSamples.{all_with, all_without, live_pages}
use Rattle.savings_report.specs.declared.table.samples.Sample.{Sample}
use Rattle.savings_report.proofs.FigureLemmas.{level_of}
use Rattle.savings_report.proofs.table.levels.Levels.add.Goals as goal

pub returns-clause-levels : goal.returns-clause-levels
returns-clause-levels c = λ samples h.
    let s = c.args.sample.now in
    let large : ℕ → ℕ = λ n. n + s.large_pages in
    record {
      live_is = level_of _ live_pages samples s _ (c.from.ensures ∙ c.whole_pages.ensures) (c.add.ensures.level _ h.live_is);
      large_is = level_of _ (λ (t : Sample). t.large_pages) samples s _ refl (c.add-2.ensures.level _ h.large_is);
      all_without_is =
          level_of _ all_without samples s _ (ap large (c.from-2.ensures ∙ c.requires.without)) (c.add-3.ensures.level _ h.all_without_is);
      all_with_is = level_of _ all_with samples s _ (ap large (c.from-3.ensures ∙ c.requires.with)) (c.add-4.ensures.level _ h.all_with_is);
      empty_without_is = level_of _ (λ (t : Sample). t.empty_without) samples s _ c.from-4.ensures (c.add-5.ensures.level _ h.empty_without_is);
      empty_with_is = level_of _ (λ (t : Sample). t.empty_with) samples s _ c.from-5.ensures (c.add-6.ensures.level _ h.empty_with_is);
    }

pub returns-clause-bounds : goal.returns-clause-bounds
returns-clause-bounds c = λ count h.
    let bounded = c.requires.bounded in
    record {
      live_in = c.add.ensures.bounds 268435456 count (omega arith) h.live_in;
      large_in = c.add-2.ensures.bounds (2 ^ 84) count bounded.large h.large_in;
      all_without_in = c.add-3.ensures.bounds (2 ^ 85) count (omega arith) h.all_without_in;
      all_with_in = c.add-4.ensures.bounds (2 ^ 85) count (omega arith) h.all_with_in;
      empty_without_in = c.add-5.ensures.bounds 131072 count (omega arith) h.empty_without_in;
      empty_with_in = c.add-6.ensures.bounds 131072 count (omega arith) h.empty_with_in;
    }
