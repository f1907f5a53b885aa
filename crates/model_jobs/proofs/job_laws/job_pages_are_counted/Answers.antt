use Rattle.model_jobs.proofs.JobPages.{jobs_counted, reports_add_up}
use Rattle.model_jobs.proofs.job_laws.job_pages_are_counted.Goals as goal

pub returns-clause-jobs : goal.returns-clause-jobs
returns-clause-jobs c = jobs_counted

pub returns-clause-reports : goal.returns-clause-reports
returns-clause-reports c = reports_add_up
