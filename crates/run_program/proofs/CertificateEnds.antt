-- How a run that is asked for a certificate ends.
use Rattle.std.proofs.Common.{◌≡◌, ◌≤◌, ℕ, List, Option, Some, None, arith, inl, inr, refl}
use Rattle.std.specs.Io.KnownBytes.{Keeps}
use Rattle.model_jobs.specs.Texts.{ended}
use Rattle.run_command_line.specs.declared.check_args.CheckArgs.{CheckArgs}
use Rattle.run_program.specs.Checks.{check_error_text, status_of_check}
use Rattle.run_program.specs.Certificates.{EndsCertificate, HasEndedWell, HasFailedCertificate, HasStoppedCertificate, HasToldCertificate}
use Rattle.run_program.specs.Runs.{HasTold, IsSound}
use Rattle.run_program.specs.Seen.{Seen}
use Rattle.run_program.specs.declared.check_error.CheckError.{CheckError}
use Rattle.run_program.proofs.CheckEnds.{status_bounds}

-- it stopped for an error, whose line was written
pub certificate_stops : (args : CheckArgs) (before after : Seen) (error : CheckError) (status : ℕ) → status ≡ status_of_check error
    → HasStoppedCertificate args before.left after.left before.written after.written error → HasFailedCertificate after.input_failed after.output_failed error
    → HasTold after.errors_failed before.told after.told (ended (check_error_text error)) → EndsCertificate args before after status
certificate_stops args before after error status is known failed told =
    let bounds = status_bounds error in
    record {
      done = λ none. absurd (omega (arith, bounds.0, is, none));
      found = λ _. inr (error, is, record { known = known; failed = failed; told = told });
      small = omega (arith, bounds.1, is);
    }

-- what is known stays as it is
pub keeps_same : (known : Option (List ℕ)) → Keeps known known
keeps_same None = tt
keeps_same (Some bytes) = refl

ended_well : (args : CheckArgs) (before after : Seen) (status : ℕ) → HasToldCertificate args before.left after.left before.written after.written status → IsSound after
    → Keeps before.told after.told → HasEndedWell args before after status
ended_well args before after status told sound untold = record { done = told; sound = sound; untold = untold }

-- an order or a judgement was written
pub certificate_ends : (args : CheckArgs) (before after : Seen) (status : ℕ) → status ≤ 4 → HasToldCertificate args before.left after.left before.written after.written status → IsSound after
    → Keeps before.told after.told → EndsCertificate args before after status
certificate_ends args before after status small told sound untold = record {
  done = λ _. ended_well args before after status told sound untold;
  found = λ _. inl (ended_well args before after status told sound untold);
  small = omega (arith, small);
}
