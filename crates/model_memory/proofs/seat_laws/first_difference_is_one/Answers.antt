use Rattle.model_memory.proofs.SeatedCalls.{one_difference}
use Rattle.model_memory.proofs.seat_laws.first_difference_is_one.Goals as goal

pub returns : goal.returns
returns c theirs ours i j at_i at_j = one_difference theirs ours i j at_i at_j
