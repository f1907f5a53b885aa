use Rattle.model_memory.proofs.SeatedCalls.{all_seated, least_missing, missing_least, no_stranger, seated_none}
use Rattle.model_memory.proofs.seat_laws.missing_seat_is_least.Goals as goal

pub returns-clause-some : goal.returns-clause-some
returns-clause-some c count numbers entries w = (missing_least count numbers entries w, least_missing count numbers entries w)

pub returns-clause-none : goal.returns-clause-none
returns-clause-none c count numbers entries = (
  λ h. ((all_seated count numbers entries h).0, no_stranger count numbers entries (all_seated count numbers entries h).1),
  λ h. seated_none count numbers entries h.0 h.1,
)
