use Rattle.model_jobs.proofs.CommandLines.{command_taken, plan_line_taken}
use Rattle.model_jobs.proofs.text_laws.lines_read_back.Goals as goal

pub returns-clause-command : goal.returns-clause-command
returns-clause-command c draft worker command here valid = command_taken draft worker command here valid

pub returns-clause-line : goal.returns-clause-line
returns-clause-line c draft line here few valid = plan_line_taken draft line here few valid
