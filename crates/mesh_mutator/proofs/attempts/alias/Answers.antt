use Rattle.mesh_mutator.proofs.CellAnswers.{alias_done, alias_refused, rooted_set}
use Rattle.mesh_mutator.proofs.attempts.alias.Goals as goal

pub returns-in-Ok-clause-performed : goal.returns-in-Ok-clause-performed
returns-in-Ok-clause-performed c = rw c.set.ensures.value (alias_done _ _ _ _ _ c.in-Ok.ensures.named)

pub returns-in-Ok-clause-rooted : goal.returns-in-Ok-clause-rooted
returns-in-Ok-clause-rooted c = rw c.set.ensures.value (rooted_set c.args.heap.now _ _ _ _ c.requires.rooted c.in-Ok.ensures.named.held)

pub returns-in-Err-clause-performed : goal.returns-in-Err-clause-performed
returns-in-Err-clause-performed c = alias_refused _ _ _ _ _ c.in-Err.ensures.refused
