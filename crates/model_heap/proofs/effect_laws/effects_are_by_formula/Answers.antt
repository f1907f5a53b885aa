use Rattle.model_heap.proofs.ProtectedPages.{others_keep_protection, steps_protect, unwinding_protects}
use Rattle.model_heap.proofs.effect_laws.effects_are_by_formula.Goals as goal

pub returns-clause-steps : goal.returns-clause-steps
returns-clause-steps c = steps_protect

pub returns-clause-unwinding : goal.returns-clause-unwinding
returns-clause-unwinding c = unwinding_protects

pub returns-clause-others : goal.returns-clause-others
returns-clause-others c = others_keep_protection
