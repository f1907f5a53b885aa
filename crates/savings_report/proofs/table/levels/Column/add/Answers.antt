use Rattle.std.proofs.Common.{◌≡◌, ◌+◌, ◌*◌, ◌<◌, length, arith, rules, ap, subst, sum, sym, slice_index, ◌∙◌}
use Rattle.std.proofs.Math.Nat.{add-mul}
use Rattle.savings_report.specs.Figures.{IsLevelIn}
use Rattle.savings_report.specs.declared.table.levels.Level.{Level}
use Rattle.savings_report.proofs.FigureLemmas.{few_total}
use Rattle.savings_report.proofs.table.levels.Column.add.Goals as goal

pub returns-clause-few : goal.returns-clause-few
returns-clause-few c =
    let told = c.told-pages in let ten : length c.args.pages.now ≡ 10 = search rules in
    omega (arith, few_total c.args.pages.now ten c.requires.few, c.turn_to.ensures.all)

pub returns-clause-bounds : goal.returns-clause-bounds
returns-clause-bounds c = λ count h.
    let told = c.told-pages in let ten : length c.args.pages.now ≡ 10 = search rules in
    let few = few_total c.args.pages.now ten c.requires.few in
    let turned = c.turn_to.new.self in
    record {
      total_in = c.add.ensures.bounds 1310720 count (omega (arith, few, c.turn_to.ensures.all, c.from.ensures))
          (subst (λ (level : Level). IsLevelIn level 1310720 count) (sym c.turn_to.ensures.total) h.total_in);
      sums_in = λ k below.
          let pages : slice_index c.args.pages.now k < 131072 = c.requires.few k 0 (omega arith) in
          let same : slice_index turned.pages k ≡ slice_index c.args.pages.now k = ap (λ pages. slice_index pages k) c.turn_to.ensures.pages in
          let more : (turned.repeats + 1) * slice_index turned.pages k ≡ turned.repeats * slice_index turned.pages k + 1 * slice_index turned.pages k =
          add-mul turned.repeats 1 (slice_index turned.pages k) in
          omega (arith, c.turn_to.ensures.sums k below, h.sums_in k below, pages, same, more);
      repeats_in = omega (arith, c.turn_to.ensures.repeats, h.repeats_in);
      all_is = c.turn_to.ensures.all ∙ ap sum (sym c.turn_to.ensures.pages);
    }
