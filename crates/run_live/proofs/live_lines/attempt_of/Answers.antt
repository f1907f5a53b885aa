use Rattle.run_live.proofs.LiveFields.{no_attempt}
use Rattle.run_live.proofs.live_lines.attempt_of.Goals as goal

pub returns-in_default-clause-value : goal.returns-in_default-clause-value
returns-in_default-clause-value c = no_attempt c.args.workers c.args.fields.now c.in_default.len_below
