-- The limits of a job.
use Rattle.std.specs.Prelude.{ℕ, ◌≤◌, List}
use Rattle.std.specs.List.{All}
use Rattle.model_jobs.specs.JobFiles.{IsValidLine}
use Rattle.model_jobs.specs.Jobs.{Line}
use Rattle.model_words.specs.declared.versions.Version.{Version}

-- the job is within its limits, and each line of its plan is valid in its version and runs only workers of the job
pub record IsJob (version : Version) (pages history workers : ℕ) (plan : List Line) : Type 0 where
  pub some_pages : 1 ≤ pages
  pub few_pages : pages ≤ 4096
  pub history_fits : history ≤ 65536
  pub some_workers : 1 ≤ workers
  pub few_workers : workers ≤ 64
  pub plan_fits : All (IsValidLine version workers) plan
