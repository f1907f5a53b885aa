-- What is known of an error that is handed on.
use Rattle.std.proofs.Common.{◌≡◌, IfErr, Result, Ok, Err, subst, sym}
use Rattle.std.specs.Result.{IsErrAnd}

-- what holds of an error holds of a result that has the same one
pub handed_on : {T E : Type 0} (r : Result T E) (error : E) (P : E → Type 0) → IsErrAnd r (λ e. e ≡ error) → P error → IfErr r P
handed_on (Ok x) error P same holds = absurd same
handed_on (Err e) error P same holds = subst P (sym same) holds
