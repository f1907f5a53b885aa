use Rattle.model_memory.proofs.ToldReads.{differ_once}
use Rattle.model_memory.proofs.read_laws.reads_differ_once.Goals as goal

pub returns-clause-right : goal.returns-clause-right
returns-clause-right c seats entries w i right at_w = at_w.wrong (right w i)

pub returns-clause-once : goal.returns-clause-once
returns-clause-once c = differ_once
