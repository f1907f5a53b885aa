use Rattle.model_jobs.proofs.JobHistories.{history_legal}
use Rattle.model_jobs.proofs.JobReplies.{replies_are_recorded}
use Rattle.model_jobs.proofs.job_laws.history_is_legal.Goals as goal

pub returns-clause-legal : goal.returns-clause-legal
returns-clause-legal c job lines = history_legal job lines

pub returns-clause-replies : goal.returns-clause-replies
returns-clause-replies c job lines = replies_are_recorded job lines
