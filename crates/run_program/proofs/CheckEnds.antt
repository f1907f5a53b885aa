-- How a judgement of a recorded history ends.
use Rattle.std.proofs.Common.{◌≡◌, ◌≤◌, ℕ, arith, inl, inr}
use Rattle.std.specs.Io.KnownBytes.{Keeps}
use Rattle.model_jobs.specs.Texts.{ended}
use Rattle.text_devices.specs.declared.faults.ReplayError.TheVariants.{Read, Write, Memory, Text}
use Rattle.run_program.specs.Checks.{EndsCheck, HasFailedCheck, HasStoppedCheck, HasToldVerdict, IsJudged, check_error_text, status_of_check}
use Rattle.run_program.specs.Runs.{HasTold, IsSound}
use Rattle.run_program.specs.Seen.{Seen}
use Rattle.run_program.specs.declared.check_error.CheckError.{CheckError}
use Rattle.run_program.specs.declared.check_error.CheckError.TheVariants.{Replay, Order}

-- no error has the status 0, and 2 is the greatest
pub status_bounds : (error : CheckError) → (1 ≤ status_of_check error) × (status_of_check error ≤ 2)
status_bounds (Replay Read) = (omega arith, omega arith)
status_bounds (Replay Write) = (omega arith, omega arith)
status_bounds (Replay Memory) = (omega arith, omega arith)
status_bounds (Replay (Text fault)) = (omega arith, omega arith)
status_bounds (Order line) = (omega arith, omega arith)

-- a verdict was written
pub check_ends : (most : ℕ) (before after : Seen) (status : ℕ) → status ≤ 4 → HasToldVerdict most before.left after.left before.written after.written status
    → IsSound after → Keeps before.told after.told → EndsCheck most before after status
check_ends most before after status small told sound untold = record { done = λ _. judged; found = λ _. inl judged; small = omega (arith, small) }
  where
    judged : IsJudged most before after status
    judged = record { done = told; sound = sound; untold = untold }

-- the judgement stopped for an error, which was told
pub check_stops : (most : ℕ) (before after : Seen) (error : CheckError) (status : ℕ) → status ≡ status_of_check error
    → HasStoppedCheck most before.left after.left before.written after.written error → HasFailedCheck after.input_failed after.output_failed error
    → HasTold after.errors_failed before.told after.told (ended (check_error_text error)) → EndsCheck most before after status
check_stops most before after error status is known failed told =
    let bounds = status_bounds error in
    record {
      done = λ none. absurd (omega (arith, bounds.0, is, none));
      found = λ _. inr (error, is, record { known = known; failed = failed; told = told });
      small = omega (arith, bounds.1, is);
    }
