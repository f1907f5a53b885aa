use Rattle.std.proofs.Common.{ap, slice_get}
use Rattle.model_memory.specs.Seats.{Call}
use Rattle.std.proofs.Common.{List}
use Rattle.model_memory.proofs.SeatedCalls.{differ_once}
use Rattle.model_memory.proofs.SettledSeats.{settle_or_differ}
use Rattle.model_memory.proofs.seat_laws.seats_settle_or_differ.Goals as goal

pub returns-clause-either : goal.returns-clause-either
returns-clause-either c = settle_or_differ

pub returns-clause-settled : goal.returns-clause-settled
returns-clause-settled c count seats entries w i settled below at_w =
    at_w.first.other (ap (λ (calls : List Call). slice_get calls i) (settled w below))

pub returns-clause-once : goal.returns-clause-once
returns-clause-once c = differ_once
