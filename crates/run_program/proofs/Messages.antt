-- What a person is told.
use Rattle.std.proofs.Common.{◌≡◌, ℕ, Bool, ◌||◌, List, Option, Result, Ok, Err, is_err, le_refl, length, sym, subst, ◌∙◌}
use Rattle.std.proofs.lemmas.Bool.{true≢false}
use Rattle.std.proofs.lemmas.List.{take_all}
use Rattle.std.specs.Io.KnownBytes.{Appends}
use Rattle.std.specs.Result.{OnErr, OnOk}
use Rattle.run_program.specs.Runs.{HasTold}
use Rattle.text_devices.specs.Transfer.{AppendsBeginning}

-- a text whose writing was tried is told
pub told_by_write : {E : Type 0} (result : Result (Unit {0}) E) (before failed : Bool) (old new : Option (List ℕ)) (text : List ℕ)
    → OnOk result (Appends old new text) → OnErr result (AppendsBeginning old new text) → failed ≡ is_err result || before → HasTold failed old new text
told_by_write (Ok done) before failed old new text wrote part fails = record {
  part = (length text, subst (λ bytes. Appends old new bytes) (sym (take_all (length text) text (le_refl (length text)))) wrote);
  whole = λ sound. wrote;
}
told_by_write (Err fault) before failed old new text wrote part fails = record { part = part; whole = λ sound. absurd (true≢false (sym fails ∙ sound)) }
