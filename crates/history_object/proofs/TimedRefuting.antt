-- A refutation of the call of a number.
use Rattle.std.proofs.Common.{◌≡◌, ℕ, Bool, Option, Some, None, slice_get}
use Rattle.std.specs.Option.{IfSome}
use Rattle.history_object.specs.declared.refutation.Refutation.{Refutation}
use Rattle.history_object.specs.Refuted.{IsRefuted}
use Rattle.history_object.specs.Following.{IsRefutedOf, TimedStanding}

-- it is one of the call at the number's place
pub is_refuted_of : {O S C : Type 0} (effect : S → C → Option S) (reads : S → C → Bool) (conflict : C → C → Bool) (old : TimedStanding S C) (place number : ℕ) (made : Option (Refutation O S C))
    → slice_get old.numbers place ≡ Some (Some number) → IfSome made (IsRefuted effect reads conflict old.standing place) → IfSome made (IsRefutedOf effect reads conflict old number)
is_refuted_of effect reads conflict old place number None there is = tt
is_refuted_of effect reads conflict old place number (Some refutation) there is = (place, there, is)
