use Rattle.std.proofs.Common.{◌≤◌, List, ℕ, arith, sym, subst, ◌∙◌}
use Rattle.std.specs.List.{All}
use Rattle.savings_report.specs.FigureSamples.{AreFew}
use Rattle.savings_replay.specs.Placement.{table_of}
use Rattle.savings_report.proofs.PerfectPages.{perfect_few}
use Rattle.savings_report.proofs.SampleTables.{is_sample}
use Rattle.savings_report.proofs.samples.sample_of.Goals as goal

pub returns-clause-value : goal.returns-clause-value
returns-clause-value c = λ f at.
    is_sample f c.counts.result (table_of c.without-without.result.now) (table_of c.with-with.result.now) c.held_pages_by_class.result.now
    c.held_pages_by_class-2.result.now c.of.result c.from.result c.empty_pages.result c.empty_pages-2.result (c.counts.ensures.follows f at)
    (c.without-without.ensures f at) (c.with-with.ensures f at) c.held_pages_by_class.ensures.value c.held_pages_by_class-2.ensures.value
    c.of.ensures.value (c.from.ensures ∙ c.totals.ensures.bytes) c.empty_pages.ensures.value c.empty_pages-2.ensures.value

few : (pages : List ℕ) → All (λ n. n ≤ 65538) pages → AreFew pages
few pages most k d below = let least = most k d below in omega (arith, least)

pub returns-clause-bounded : goal.returns-clause-bounded
returns-clause-bounded c =
    record {
      without = few c.held_pages_by_class.result.now c.held_pages_by_class.ensures.few;
      with = few c.held_pages_by_class-2.result.now c.held_pages_by_class-2.ensures.few;
      perfect = subst AreFew (sym c.of.ensures.value)
          (perfect_few (table_of c.without-without.result.now) c.of.ensures.fits
          (subst (λ (pages : List ℕ). All (λ n. n ≤ 65538) pages) c.held_pages_by_class.ensures.value c.held_pages_by_class.ensures.few));
      bytes = let is = c.from.ensures in omega (arith, is);
      large = let few = c.counts.ensures.few in omega (arith, few);
      empty_without = let most = c.empty_pages.ensures.few in omega (arith, most);
      empty_with = let most = c.empty_pages-2.ensures.few in omega (arith, most);
    }
