use Rattle.mesh_page_heap.proofs.SameEffects.{effect_is_one}
use Rattle.mesh_page_heap.proofs.effects.effects_are_determined.Goals as goal

pub returns : goal.returns
returns c = effect_is_one
