-- How a report on what meshing saves ends that has no table of the whole history.
use Rattle.std.proofs.Common.{◌≡◌, ◌≤◌, ℕ, Some, arith, inl, inr, refl}
use Rattle.model_jobs.specs.Texts.{ended}
use Rattle.run_program.specs.Runs.{HasTold, IsSound}
use Rattle.run_program.specs.Savings.{EndsSavings, HasFailedSavings, HasStoppedSavings, HasWrittenReport, savings_status, savings_text, used_up_text}
use Rattle.run_program.specs.Seen.{Seen}
use Rattle.text_devices.specs.declared.faults.ReplayError.TheVariants.{Read, Write, Memory, Text}
use Rattle.savings_report.specs.declared.errors.SavingsError.{SavingsError}
use Rattle.savings_report.specs.declared.errors.SavingsError.TheVariants.{NotAHistory, Replay}
use Rattle.savings_report.specs.declared.options.SavingsOptions.{SavingsOptions}

-- no error has the status 0, and 2 is the greatest
status_bounds : (error : SavingsError) → (1 ≤ savings_status error) × (savings_status error ≤ 2)
status_bounds (Replay Read) = (omega arith, omega arith)
status_bounds (Replay Write) = (omega arith, omega arith)
status_bounds (Replay Memory) = (omega arith, omega arith)
status_bounds (Replay (Text fault)) = (omega arith, omega arith)
status_bounds (NotAHistory line) = (omega arith, omega arith)

module _ (options : SavingsOptions) (before after : Seen) where
  -- a heap had no virtual pages left for a call
  pub used_up_ends : (call : ℕ) → HasWrittenReport options before.left after.left before.written after.written (Some call) → IsSound after
      → HasTold after.errors_failed before.told after.told (ended (used_up_text call)) → EndsSavings options before after 4
  used_up_ends call written sound told = record {
    done = λ none. absurd (omega (arith, none));
    stopped = λ _. inl (refl, (call, record { written = written; sound = sound; told = told }));
    small = omega arith;
  }

  -- the report stopped for an error, which was told
  pub stopped_ends : (error : SavingsError) (status : ℕ) → status ≡ savings_status error
      → HasStoppedSavings options before.left after.left before.written after.written error → HasFailedSavings after.input_failed after.output_failed error
      → HasTold after.errors_failed before.told after.told (ended (savings_text error)) → EndsSavings options before after status
  stopped_ends error status is known failed told =
      let bounds = status_bounds error in
      record {
        done = λ none. absurd (omega (arith, bounds.0, is, none));
        stopped = λ _. inr (error, is, record { known = known; failed = failed; told = told });
        small = omega (arith, bounds.1, is);
      }
