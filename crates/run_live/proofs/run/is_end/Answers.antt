use Rattle.std.proofs.Common.{ap, ◌∙◌}
use Rattle.model_jobs.specs.JobFiles.{are_same}
use Rattle.run_live.proofs.Runs.{same_test}
use Rattle.run_live.proofs.run.is_end.Goals as goal

pub returns : goal.returns
returns c = c.eq.ensures ∙ same_test c.args.line.now c.as_slice.result.now ∙ ap (are_same c.args.line.now) c.as_slice.ensures
