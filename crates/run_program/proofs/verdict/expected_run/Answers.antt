use Rattle.std.proofs.Common.{◌∙◌}
use Rattle.run_program.proofs.ExploreEnds.{unread_status}
use Rattle.run_program.proofs.verdict.expected_run.Goals as goal

pub returns-in-Err-clause-unread : goal.returns-in-Err-clause-unread
returns-in-Err-clause-unread g c = record {
  error = c.in-Err.error;
  is_status = c.status_of.ensures;
  failed = c.in-Err.ensures.stopped;
  line = c.tell_error.ensures;
}

pub returns-in-Err-clause-status : goal.returns-in-Err-clause-status
returns-in-Err-clause-status g c = c.status_of.ensures ∙ unread_status _ c.in-Err.error c.in-Err.ensures.stopped
