use Rattle.std.proofs.Common.{◌≡◌, length, arith, rules}
use Rattle.savings_report.proofs.FigureLemmas.{few_total}
use Rattle.savings_report.proofs.table.levels.Column.turn_to.Goals as goal

pub total_pages-self-requires : goal.total_pages-self-requires
total_pages-self-requires c =
    let told = c.told-pages in let ten : length c.args.pages.now ≡ 10 = search rules in
    omega (arith, few_total c.args.pages.now ten c.requires.few)
