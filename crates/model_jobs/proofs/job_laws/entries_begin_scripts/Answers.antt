use Rattle.model_jobs.proofs.JobHistories.{entries_begin}
use Rattle.model_jobs.proofs.job_laws.entries_begin_scripts.Goals as goal

pub returns : goal.returns
returns c = entries_begin
