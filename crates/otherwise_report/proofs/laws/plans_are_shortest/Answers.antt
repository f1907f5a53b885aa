use Rattle.otherwise_report.proofs.ReportMeanings.{answer_plan_shortest, fault_plan_shortest, stuck_plan_shortest}
use Rattle.otherwise_report.proofs.laws.plans_are_shortest.Goals as goal

pub returns-clause-faults : goal.returns-clause-faults
returns-clause-faults c = fault_plan_shortest

pub returns-clause-answers : goal.returns-clause-answers
returns-clause-answers c = answer_plan_shortest

pub returns-clause-stuck : goal.returns-clause-stuck
returns-clause-stuck c = stuck_plan_shortest
