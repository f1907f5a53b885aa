use Rattle.run_program.proofs.Messages.{told_by_write}
use Rattle.run_program.proofs.runs.tell.Goals as goal

pub returns : goal.returns
returns g c = told_by_write c.write_all.result _ _ _ _ _ c.write_all.ensures.ok c.write_all.ensures.err c.write_all.ensures.fails
