use Rattle.std.proofs.Common.{refl}
use Rattle.model_memory.proofs.SeatedCalls.{all_seated}
use Rattle.model_memory.proofs.seat_laws.missing_seats_are_told.Goals as goal

pub returns-clause-all : goal.returns-clause-all
returns-clause-all c count numbers entries h = all_seated count numbers entries h

pub returns-clause-swapped : goal.returns-clause-swapped
returns-clause-swapped c = (refl, refl)

pub returns-clause-strangers : goal.returns-clause-strangers
returns-clause-strangers c entries = refl

pub returns-clause-entries : goal.returns-clause-entries
returns-clause-entries c command reply = (refl, refl)
