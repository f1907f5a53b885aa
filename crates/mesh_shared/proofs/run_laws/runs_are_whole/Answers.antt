use Rattle.mesh_shared.proofs.RunExamples.{exchanged_is_no_beginning, exchanged_is_no_run, first_alone_is_no_run, stranger_is_no_beginning, stranger_is_no_run, whole_is_run, without_last_is_begun, without_last_is_no_run}
use Rattle.mesh_shared.proofs.run_laws.runs_are_whole.Goals as goal

pub returns-clause-whole : goal.returns-clause-whole
returns-clause-whole c = whole_is_run

pub returns-clause-begun : goal.returns-clause-begun
returns-clause-begun c = without_last_is_begun

pub returns-clause-lacks_last : goal.returns-clause-lacks_last
returns-clause-lacks_last c = without_last_is_no_run

pub returns-clause-first_alone : goal.returns-clause-first_alone
returns-clause-first_alone c = first_alone_is_no_run

pub returns-clause-stranger : goal.returns-clause-stranger
returns-clause-stranger c = stranger_is_no_run

pub returns-clause-stranger_begun : goal.returns-clause-stranger_begun
returns-clause-stranger_begun c = stranger_is_no_beginning

pub returns-clause-exchanged : goal.returns-clause-exchanged
returns-clause-exchanged c = exchanged_is_no_run

pub returns-clause-exchanged_begun : goal.returns-clause-exchanged_begun
returns-clause-exchanged_begun c = exchanged_is_no_beginning
