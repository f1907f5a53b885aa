-- What a play answers where it ends.
use Rattle.std.proofs.Common.{◌≡◌, ℕ, Bool, true, false, List, [], Option, None, Some, Result, Ok, Err, ◌⊎◌, inl, inr, append-nil, refl, subst, sym}
use Rattle.std.specs.Prelude.{is_err, OnOk, IfErr}
use Rattle.std.specs.Result.{IsErr, IsErrAnd, OnErr}
use Rattle.std.specs.Io.KnownBytes.{Appends}
use Rattle.model_jobs.specs.Jobs.{Job}
use Rattle.mesh_text.specs.Printed.{HasGathered}
use Rattle.mesh_text.specs.declared.printed.Printed.{Printed}
use Rattle.mesh_text.specs.declared.printed.Printed.TheVariants.{Answers, Echo}
use Rattle.text_devices.specs.declared.faults.ReplayError.{ReplayError}
use Rattle.text_devices.specs.declared.faults.ReplayError.TheVariants.{Memory, Write}

-- nothing is gathered before the first line
pub nothing_written : (old : Option (List ℕ)) → Appends old old []
nothing_written None = tt
nothing_written (Some bytes) = sym (append-nil bytes)

pub gathered_none : (printed : Printed) (job : Job) (old : Option (List ℕ)) (text : List ℕ) → text ≡ [] → HasGathered printed job 0 old old text
gathered_none Answers job old text none = record { lines = 0; wrote = nothing_written old; all = none }
gathered_none Echo job old text none = record { lines = 0; wrote = nothing_written old; all = none }

module _ {T : Type 0} where
  -- an error is no success
  pub never_ok : (P : Type 0) (r : Result T ReplayError) → IsErr r → OnOk r P
  never_ok P (Ok x) err = absurd (cc err)
  never_ok P (Err e) err = tt

  -- a result that is an error has what that error has
  if_error : (P : ReplayError → Type 0) (r : Result T ReplayError) → IsErrAnd r P → IfErr r P
  if_error P (Ok x) told = tt
  if_error P (Err e) told = told

  -- an error is no other one
  other_error : (e e' : ReplayError) (r : Result T ReplayError) → IfErr r (λ x. x ≡ e) → (e ≡ e' → ⊥) → r ≡ Err e' → ⊥
  other_error e e' (Ok x) told other is = cc is
  other_error e e' (Err x) told other is = let same : e ≡ e' = cc (told, is) in other same

  -- and of the two kinds where it is of one
  of_kind : (e : ReplayError) (r : Result T ReplayError) → IfErr r (λ x. x ≡ e) → (e ≡ Write) ⊎ (e ≡ Memory) → IfErr r (λ x. (x ≡ Write) ⊎ (x ≡ Memory))
  of_kind e (Ok x) told kind = tt
  of_kind e (Err x) told kind = subst (λ x. (x ≡ Write) ⊎ (x ≡ Memory)) (sym told) kind

  -- where memory was refused
  pub not_write : (r : Result T ReplayError) → IsErrAnd r (λ e. e ≡ Memory) → r ≡ Err Write → ⊥
  not_write r told = other_error Memory Write r (if_error _ r told) (λ is. cc is)

  pub is_memory : (r : Result T ReplayError) → IsErrAnd r (λ e. e ≡ Memory) → IfErr r (λ e. (e ≡ Write) ⊎ (e ≡ Memory))
  is_memory r told = of_kind Memory r (if_error _ r told) (inr refl)

  -- where the output failed
  pub not_memory : (r : Result T ReplayError) (error : ReplayError) → IsErrAnd r (λ e. e ≡ error) → error ≡ Write → r ≡ Err Memory → ⊥
  not_memory r error told fault = other_error error Memory r (if_error _ r told) (λ is. cc (fault, is))

  pub is_write : (r : Result T ReplayError) (error : ReplayError) → IsErrAnd r (λ e. e ≡ error) → error ≡ Write → IfErr r (λ e. (e ≡ Write) ⊎ (e ≡ Memory))
  is_write r error told fault = of_kind error r (if_error _ r told) (inl fault)

  -- where the last write ends
  pub last_ok : (r : Result T ReplayError) (failed : Bool) → failed ≡ is_err r → OnOk r (failed ≡ false)
  last_ok (Ok x) failed is = is
  last_ok (Err e) failed is = tt

  pub last_fails : (r : Result T ReplayError) (failed : Bool) → failed ≡ is_err r → r ≡ Err Write → failed ≡ true
  last_fails (Ok x) failed is err = cc err
  last_fails (Err e) failed is err = is

  pub last_not_memory : (r : Result T ReplayError) → IfErr r (λ e. e ≡ Write) → r ≡ Err Memory → ⊥
  last_not_memory r told = other_error Write Memory r told (λ is. cc is)

  pub last_kind : (r : Result T ReplayError) → IfErr r (λ e. e ≡ Write) → IfErr r (λ e. (e ≡ Write) ⊎ (e ≡ Memory))
  last_kind r told = of_kind Write r told (inl refl)

  -- and a beginning was written where the last write failed
  pub last_begins : (P : Type 0) (r : Result T ReplayError) → OnErr r P → r ≡ Err Write → P
  last_begins P (Ok x) part is = absurd (cc is)
  last_begins P (Err e) part is = part
