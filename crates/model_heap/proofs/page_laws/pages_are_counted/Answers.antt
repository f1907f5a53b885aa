use Rattle.std.proofs.Common.{arith}
use Rattle.model_heap.proofs.CountedPages.{begin_counted, cancel_counted, free_counted, new_counted, step_counted, sweep_counted, whole_counted}
use Rattle.model_heap.proofs.page_laws.pages_are_counted.Goals as goal

pub returns-clause-empty : goal.returns-clause-empty
returns-clause-empty c pages = omega arith

pub returns-clause-made : goal.returns-clause-made
returns-clause-made c = new_counted

pub returns-clause-freed : goal.returns-clause-freed
returns-clause-freed c = free_counted

pub returns-clause-swept : goal.returns-clause-swept
returns-clause-swept c = sweep_counted

pub returns-clause-begun : goal.returns-clause-begun
returns-clause-begun c = begin_counted

pub returns-clause-whole : goal.returns-clause-whole
returns-clause-whole c = whole_counted

pub returns-clause-stepped : goal.returns-clause-stepped
returns-clause-stepped c = step_counted

pub returns-clause-cancelled : goal.returns-clause-cancelled
returns-clause-cancelled c = cancel_counted
