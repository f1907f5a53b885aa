-- How a run in threads ends that stopped for an error.
use Rattle.std.proofs.Common.{◌≡◌, ◌≤◌, ℕ, arith}
use Rattle.model_jobs.specs.Texts.{ended}
use Rattle.run_program.specs.Runs.{HasTold}
use Rattle.run_program.specs.Seen.{Seen}
use Rattle.run_program.specs.Threads.{EndsThreads, HasFailedRun, HasStoppedRun, threads_status, threads_text}
use Rattle.run_program.specs.declared.printed.Printed.{Printed}
use Rattle.run_program.specs.declared.threads_error.ThreadsError.{ThreadsError}
use Rattle.run_command_line.specs.declared.threads_args.ThreadsArgs.{ThreadsArgs}
use Rattle.run_program.specs.declared.threads_error.ThreadsError.TheVariants.{Replay, TooShort, Thread, Run}
use Rattle.text_devices.specs.declared.faults.ReplayError.TheVariants.{Read, Write, Memory, Text}

-- no error has the status 0, and 2 is the greatest
status_bounds : (error : ThreadsError) → (1 ≤ threads_status error) × (threads_status error ≤ 2)
status_bounds (Replay Read) = (omega arith, omega arith)
status_bounds (Replay Write) = (omega arith, omega arith)
status_bounds (Replay Memory) = (omega arith, omega arith)
status_bounds (Replay (Text fault)) = (omega arith, omega arith)
status_bounds TooShort = (omega arith, omega arith)
status_bounds Thread = (omega arith, omega arith)
status_bounds Run = (omega arith, omega arith)

-- a run that stopped for an error, and told it, ends with its status
pub stopped_ends : (printed : Printed) (args : ThreadsArgs) (before after : Seen) (error : ThreadsError) (status : ℕ) → status ≡ threads_status error
    → HasStoppedRun printed args before.left after.left before.written after.written error → HasFailedRun after.input_failed after.output_failed error
    → HasTold after.errors_failed before.told after.told (ended (threads_text error)) → EndsThreads printed args before after status
stopped_ends printed args before after error status is known failed told =
    let bounds = status_bounds error in
    record {
      done = λ none. absurd (omega (arith, bounds.0, is, none));
      stopped = λ _. (error, is, record { known = known; failed = failed; told = told });
      small = omega (arith, bounds.1, is);
    }
