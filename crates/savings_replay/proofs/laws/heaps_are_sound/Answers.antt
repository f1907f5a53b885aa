use Rattle.savings_replay.proofs.AlikeHeaps.{heaps_sound}
use Rattle.savings_replay.proofs.laws.heaps_are_sound.Goals as goal

pub returns : goal.returns
returns c = heaps_sound
