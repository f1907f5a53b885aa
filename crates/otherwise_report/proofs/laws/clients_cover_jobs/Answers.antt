use Rattle.otherwise_report.proofs.ClientSteps.{answers_covered, states_covered}
use Rattle.otherwise_report.proofs.laws.clients_cover_jobs.Goals as goal

pub returns-clause-states : goal.returns-clause-states
returns-clause-states c = states_covered

pub returns-clause-answers : goal.returns-clause-answers
returns-clause-answers c = answers_covered
