use Rattle.std.proofs.Common.{◌≡◌, List, [], length, refl, ◌∙◌, ap, arith}
use Rattle.model_memory.specs.Seats.{Call}
use Rattle.model_memory.specs.Reads.{recorded, kept_by, places_from}
use Rattle.model_memory.proofs.FittingCalls.{fits_after, places_as_calls}
use Rattle.model_memory.proofs.RightReads.{built_known}
use Rattle.model_memory.proofs.WovenCalls.{weave_fits, built_woven}
use Rattle.model_memory.proofs.read_laws.built_has_calls.Goals as goal

pub returns-clause-calls : goal.returns-clause-calls
returns-clause-calls c seats entries end told right w below =
    let own = told.own w below in
    let many : length (recorded (kept_by seats w)) ≡ length (places_from 0 w entries) = ap (λ (calls : List Call). length calls) own ∙ places_as_calls entries 0 w in
    let fits = fits_after (places_from 0 w entries) (length entries) (kept_by seats w) [] 0 (places_from 0 w entries) refl (omega (arith, many))
    (λ n fine. omega arith) (λ i n kept at sees. (right w i kept n at sees).0) in
    built_woven entries 0 w seats ∙ weave_fits entries 0 w (length entries) (omega arith) (kept_by seats w) 0 (omega arith) own fits

pub returns-clause-no_other : goal.returns-clause-no_other
returns-clause-no_other c seats entries known = built_known entries 0 seats known
