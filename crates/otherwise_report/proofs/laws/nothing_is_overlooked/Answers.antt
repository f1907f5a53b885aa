use Rattle.otherwise_report.proofs.ReportMeanings.{no_answer_overlooked, no_fault_overlooked, no_stuck_overlooked}
use Rattle.otherwise_report.proofs.laws.nothing_is_overlooked.Goals as goal

pub returns-clause-faults : goal.returns-clause-faults
returns-clause-faults c = no_fault_overlooked

pub returns-clause-answers : goal.returns-clause-answers
returns-clause-answers c = no_answer_overlooked

pub returns-clause-stuck : goal.returns-clause-stuck
returns-clause-stuck c = no_stuck_overlooked
