use Rattle.model_heap.proofs.CountedPages.{sweep_answers, whole_answers}
use Rattle.model_heap.proofs.page_laws.freed_pages_are_answered.Goals as goal

pub returns-clause-swept : goal.returns-clause-swept
returns-clause-swept c = sweep_answers

pub returns-clause-whole : goal.returns-clause-whole
returns-clause-whole c = whole_answers
