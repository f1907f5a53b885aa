use Rattle.savings_report.proofs.Columns.{least_figures}
use Rattle.savings_report.proofs.laws.perfect_figures_are_least.Goals as goal

pub returns : goal.returns
returns c = least_figures
