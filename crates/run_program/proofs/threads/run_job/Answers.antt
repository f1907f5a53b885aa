use Rattle.std.proofs.Common.{◌∙◌, ℕ, ap, length}
use Rattle.model_jobs.specs.Jobs.{Job}
use Rattle.run_program.specs.Threads.{text_of_run}
use Rattle.run_program.proofs.threads.run_job.Goals as goal

pub returns-clause-text : goal.returns-clause-text
returns-clause-text g c = record {
  ran = c.in_ok-ran.ran;
  run = c.in_ok-ran.ensures.ran;
  is_text = c.in_ok-text.ensures
      ∙ ap (λ (workers : ℕ). text_of_run c.args.printed workers c.in_ok-ran.ran) (c.count-workers.ensures.value ∙ ap (λ (job : Job). length job.scripts) c.job.view_is);
}
