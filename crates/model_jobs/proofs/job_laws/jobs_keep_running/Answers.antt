use Rattle.model_jobs.proofs.JobHistories.{answer_running, lines_running, opening_running}
use Rattle.model_jobs.proofs.job_laws.jobs_keep_running.Goals as goal

pub returns-clause-initial_state : goal.returns-clause-initial_state
returns-clause-initial_state c = opening_running

pub returns-clause-answer : goal.returns-clause-answer
returns-clause-answer c = answer_running

pub returns-clause-lines : goal.returns-clause-lines
returns-clause-lines c = lines_running
