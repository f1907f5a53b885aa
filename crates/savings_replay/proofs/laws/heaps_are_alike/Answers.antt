use Rattle.savings_replay.proofs.AlikeHeaps.{classes_alike, heaps_alike}
use Rattle.savings_replay.proofs.laws.heaps_are_alike.Goals as goal

pub returns-clause-objects : goal.returns-clause-objects
returns-clause-objects c = heaps_alike

pub returns-clause-classes : goal.returns-clause-classes
returns-clause-classes c = classes_alike
