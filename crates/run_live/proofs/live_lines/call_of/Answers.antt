use Rattle.model_jobs.proofs.LineReadings.{line_in_range}
use Rattle.text_fields.specs.Lines.{texts}
use Rattle.run_live.proofs.live_lines.call_of.Goals as goal

pub returns-clause-in_range : goal.returns-clause-in_range
returns-clause-in_range c = line_in_range _ _ c.args.word.now (texts c.args.fields.now) _ c.requires c.in_ok-line.ensures.ok
