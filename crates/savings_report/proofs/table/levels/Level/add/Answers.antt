use Rattle.std.proofs.Common.{◌≡◌, max, arith}
use Rattle.std.proofs.lemmas.Bool.Decides.{nat_tests}
use Rattle.savings_report.proofs.FigureLemmas.{level_in_push, level_push}
use Rattle.savings_report.proofs.table.levels.Level.add.Goals as goal

pub returns-clause-level : goal.returns-clause-level
returns-clause-level c = λ ns h.
    let peak_is : c.max-self.result ≡ max c.args.self.now.peak c.args.number = grind (arith, nat_tests, c.max-self.ensures) in
    level_push c.args.self.now _ ns c.args.number peak_is (omega arith) h

pub returns-clause-bounds : goal.returns-clause-bounds
returns-clause-bounds c = λ most count small h.
    let peak_is : c.max-self.result ≡ max c.args.self.now.peak c.args.number = grind (arith, nat_tests, c.max-self.ensures) in
    level_in_push c.args.self.now _ most count c.args.number peak_is (omega arith) small h
