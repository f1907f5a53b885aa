use Rattle.model_jobs.proofs.Readings.{job_back}
use Rattle.model_jobs.proofs.text_laws.job_reads_back.Goals as goal

pub returns : goal.returns
returns c job valid short = job_back job valid short
