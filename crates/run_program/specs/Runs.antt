-- The messages of a run, and how a run ends.
use Rattle.std.specs.Prelude.{◌≡◌, ◌<◌, ◌≤◌, ℕ, Bool, true, false, List, ◌++◌, Option, codes}
use Rattle.std.specs.Io.KnownBytes.{Appends, Keeps}
use Rattle.model_words.specs.Faults.{kind_name_of}
use Rattle.model_jobs.specs.Texts.{ended, number_field}
use Rattle.model_words.specs.declared.faults.TextFault.{TextFault}
use Rattle.run_program.specs.Seen.{Seen}
use Rattle.run_program.specs.Status.{status_of_error}
use Rattle.text_devices.specs.Transfer.{AppendsBeginning}
use Rattle.text_devices.specs.declared.faults.ReplayError.{ReplayError}
use Rattle.text_devices.specs.declared.faults.ReplayError.TheVariants.{Read, Write, Memory, Text}

-- a fault's line, without its end
abbrev pub fault_text : TextFault → List ℕ
fault_text fault = codes "line" ++ number_field fault.line ++ codes ": " ++ kind_name_of fault.kind

-- an error's line, without its end
abbrev pub error_text : ReplayError → List ℕ
error_text Read = codes "read fault"
error_text Write = codes "write fault"
error_text Memory = codes "out of memory"
error_text (Text fault) = fault_text fault

-- a beginning of this text was printed. If the device of the errors hasn't failed, the whole text was printed
pub record HasTold (failed : Bool) (told told' : Option (List ℕ)) (text : List ℕ) : Type 0 where
  pub part : AppendsBeginning told told' text
  pub whole : failed ≡ false → Appends told told' text

-- the device that the error names, if any, has failed
abbrev pub HasFailed : Bool → Bool → ReplayError → Type 0
HasFailed input output Read = input ≡ true
HasFailed input output Write = output ≡ true
HasFailed input output Memory = Unit {0}
HasFailed input output (Text fault) = Unit {0}

-- neither the input nor the output has failed
pub record IsSound (seen : Seen) : Type 0 where
  pub input : seen.input_failed ≡ false
  pub output : seen.output_failed ≡ false

-- a statement about what was read and written. Its arguments are what the input had left before and after, and what the
-- output had taken before and after
abbrev pub Moves : Type 1
Moves = Option (List ℕ) → Option (List ℕ) → Option (List ℕ) → Option (List ℕ) → Type 0

-- a statement about what was read and written before a run stopped for an error. The error is its last argument
abbrev pub MovesBy : Type 0 → Type 1
MovesBy Error = Option (List ℕ) → Option (List ℕ) → Option (List ℕ) → Option (List ℕ) → Error → Type 0

-- a run that did its work: `Does` holds of what was read and written, no device failed, and no message was printed
pub record IsDone (Does : Moves) (before after : Seen) : Type 0 where
  pub done : Does before.left after.left before.written after.written
  pub sound : IsSound after
  pub untold : Keeps before.told after.told

-- a run that stopped for an error: `Stops` holds of what was read and written, `Fails` of the devices, and the error's
-- line was printed
pub record IsStoppedFor {Error : Type 0} (text_of : Error → List ℕ) (Fails : Bool → Bool → Error → Type 0) (Stops : MovesBy Error) (before after : Seen)
    (error : Error) : Type 0 where
  pub known : Stops before.left after.left before.written after.written error
  pub failed : Fails after.input_failed after.output_failed error
  pub told : HasTold after.errors_failed before.told after.told (ended (text_of error))

-- how a run ends. If the status is 0, the run did its work. Otherwise the run stopped for an error with this status.
-- The status is at most 4
pub record EndsBy {Error : Type 0} (status_of : Error → ℕ) (text_of : Error → List ℕ) (Fails : Bool → Bool → Error → Type 0) (Does : Moves)
    (Stops : MovesBy Error) (before after : Seen) (status : ℕ) : Type 0 where
  pub done : status ≡ 0 → IsDone Does before after
  pub stopped : 0 < status → (error : Error) × (status ≡ status_of error) × IsStoppedFor text_of Fails Stops before after error
  pub small : status ≤ 4

-- how a run ends if its errors are those of a replay
abbrev pub Ends : Moves → MovesBy ReplayError → Seen → Seen → ℕ → Type 0
Ends Does Stops before after status = EndsBy status_of_error error_text HasFailed Does Stops before after status
