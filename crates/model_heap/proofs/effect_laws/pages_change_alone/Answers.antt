use Rattle.model_heap.proofs.CopiedBytes.{one_freed, one_led, one_protected}
use Rattle.model_heap.proofs.effect_laws.pages_change_alone.Goals as goal

pub returns-clause-protection : goal.returns-clause-protection
returns-clause-protection c = one_protected

pub returns-clause-lead : goal.returns-clause-lead
returns-clause-lead c = one_led

pub returns-clause-free : goal.returns-clause-free
returns-clause-free c = one_freed
