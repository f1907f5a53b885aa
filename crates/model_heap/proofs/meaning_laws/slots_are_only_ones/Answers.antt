use Rattle.model_heap.proofs.OneSlot.{one_slot}
use Rattle.model_heap.proofs.meaning_laws.slots_are_only_ones.Goals as goal

pub returns : goal.returns
returns c = one_slot
