use Rattle.std.proofs.Common.{◌≡◌, length, rules, arith}
use Rattle.savings_report.proofs.FigureLemmas.{few_total}
use Rattle.savings_report.proofs.plot.readings.Reading.of.Goals as goal

pub total_pages-requires : goal.total_pages-requires
total_pages-requires c =
    let ten : length c.args.sample.now.without ≡ 10 = search rules in omega (arith, few_total c.args.sample.now.without ten c.requires.without)

pub total_pages-requires-2 : goal.total_pages-requires-2
total_pages-requires-2 c =
    let ten : length c.args.sample.now.with ≡ 10 = search rules in omega (arith, few_total c.args.sample.now.with ten c.requires.with)

pub total_pages-requires-3 : goal.total_pages-requires-3
total_pages-requires-3 c =
    let ten : length c.args.sample.now.perfect ≡ 10 = search rules in omega (arith, few_total c.args.sample.now.perfect ten c.requires.perfect)
