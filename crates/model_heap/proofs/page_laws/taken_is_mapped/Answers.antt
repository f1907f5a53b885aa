use Rattle.model_heap.proofs.CountedPages.{taken_mapped}
use Rattle.model_heap.proofs.HeldPages.{free_within}
use Rattle.model_heap.proofs.page_laws.taken_is_mapped.Goals as goal

pub returns-clause-free : goal.returns-clause-free
returns-clause-free c = free_within

pub returns-clause-table : goal.returns-clause-table
returns-clause-table c = taken_mapped
