use Rattle.run_program.proofs.ThreadEnds.{stopped_ends}
use Rattle.run_program.proofs.threads.threads_run.Goals as goal

pub returns-in-Err : goal.returns-in-Err
returns-in-Err g c = stopped_ends _ _ _ _ c.in-Err.error _ c.threads_stopped.ensures.status c.in-Err.ensures.stopped c.in-Err.ensures.failed
    c.threads_stopped.ensures.told
