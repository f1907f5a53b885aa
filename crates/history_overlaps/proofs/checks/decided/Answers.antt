use Rattle.history_overlaps.proofs.CheckSteps.{told_found}
use Rattle.history_overlaps.proofs.checks.decided.Goals as goal

pub returns-in-Ok-clause-told : goal.returns-in-Ok-clause-told
returns-in-Ok-clause-told c = told_found c.args.found c.in-Ok.verdict c.in-Ok.is
