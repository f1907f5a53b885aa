use Rattle.savings_report.proofs.FigureLemmas.{rounded_up, rounded_down}
use Rattle.savings_report.proofs.table.rounding.divided.Goals as goal

pub returns-then-rest-b-clause-value : goal.returns-then-rest-b-clause-value
returns-then-rest-b-clause-value c = rounded_up c.args.a c.args.b c.requires c.if-rest-b.true

pub returns-else-rest-b-clause-value : goal.returns-else-rest-b-clause-value
returns-else-rest-b-clause-value c = rounded_down c.args.a c.args.b c.requires c.if-rest-b.false
