use Rattle.model_jobs.proofs.AnsweredCommands.{answered_well}
use Rattle.model_jobs.proofs.job_laws.answered_is_step.Goals as goal

pub returns : goal.returns
returns c m t command sound tied = (answered_well m t command sound tied).step
