-- Results and options that are passed on.
use Rattle.std.proofs.Common.{◌≡◌, Option, Some, None, Result, Ok, Err, refl, subst, sym}
use Rattle.std.specs.Prelude.{IfErr, IfSome, IsErrAnd, IsNone}

-- an error that is passed on
pub passed_on : {T E : Type 0} (result : Result T E) (error : E) (P : E → Type 0) → IsErrAnd result (λ e. e ≡ error) → P error → IfErr result P
passed_on (Ok x) error P same holds = absurd same
passed_on (Err e) error P same holds = subst P (sym same) holds

-- what holds of an option's value, where it has this one
pub some_holds : {X : Type 0} (P : X → Type 0) (o : Option X) (x : X) → o ≡ Some x → IfSome o P → P x
some_holds P o x is h = subst (λ (o : Option _). IfSome o P) is h

pub none_is : {X : Type 0} (o : Option X) → o ≡ None → IsNone o
none_is o is = rw is refl
