-- What a judgement of a recorded history writes, and what was read and written if it stops.
use Rattle.std.specs.Prelude.{◌≡◌, ◌<◌, ◌≤◌, ◌⊎◌, ℕ, Bool, List, ◌++◌, Option, codes}
use Rattle.std.specs.Io.KnownBytes.{Appends, Keeps}
use Rattle.model_jobs.specs.Texts.{number_field}
use Rattle.history_reading.specs.declared.faults.CallError.{CallError}
use Rattle.history_reading.specs.declared.faults.CallError.TheVariants.{Text as CallText, Order as CallOrder, Read as CallRead, Memory as CallMemory}
use Rattle.history_in_order.specs.declared.verdicts.Verdict.TheVariants.{Legal, Wrong}
use Rattle.history_overlaps.specs.declared.verdicts.CallVerdict.TheVariants.{Linearizable, Misused, Flawed, Undecided}
use Rattle.history_judge.specs.JudgementTexts.{judgement_text}
use Rattle.history_judge.specs.Judgements.{HasJudged, HasNotJudged}
use Rattle.history_judge.specs.declared.judging.Judgement.{Judgement}
use Rattle.history_judge.specs.declared.judging.Judgement.TheVariants.{InOrder, Overlapping}
use Rattle.run_program.specs.Runs.{HasFailed, IsDone, IsStoppedFor, error_text}
use Rattle.run_program.specs.Seen.{Seen}
use Rattle.run_program.specs.Status.{status_of_error}
use Rattle.run_program.specs.declared.check_error.CheckError.{CheckError}
use Rattle.run_program.specs.declared.check_error.CheckError.TheVariants.{Replay, Order}
use Rattle.text_devices.specs.Transfer.{AppendsBeginning}
use Rattle.text_devices.specs.declared.faults.ReplayError.TheVariants.{Read, Write, Memory, Text}

-- the error of a judgement, if no verdict was found for this error
abbrev pub check_error_of : CallError → CheckError
check_error_of (CallText fault) = Replay (Text fault)
check_error_of (CallOrder line) = Order line
check_error_of CallRead = Replay Read
check_error_of CallMemory = Replay Memory

-- an error's line, without its end
abbrev pub check_error_text : CheckError → List ℕ
check_error_text (Replay error) = error_text error
check_error_text (Order line) = codes "line" ++ number_field line ++ codes ": ORDER"

-- an error's status
abbrev pub status_of_check : CheckError → ℕ
status_of_check (Replay error) = status_of_error error
status_of_check (Order line) = 2

-- the device that the error names, if any, has failed
abbrev pub HasFailedCheck : Bool → Bool → CheckError → Type 0
HasFailedCheck input output (Replay error) = HasFailed input output error
HasFailedCheck input output (Order line) = Unit {0}

-- the status of a judgement: 0 if the history is legal or linearizable, 4 if this isn't decided, otherwise 3
abbrev pub judgement_status : Judgement → ℕ
judgement_status (InOrder (Legal entries)) = 0
judgement_status (InOrder (Wrong line reason)) = 3
judgement_status (Overlapping (Linearizable entries)) = 0
judgement_status (Overlapping (Misused line misuse)) = 3
judgement_status (Overlapping (Flawed line flaw)) = 3
judgement_status (Overlapping (Undecided line fault)) = 4

-- the history was judged, the judgement's line was written, and the judgement has this status
abbrev pub HasToldVerdict : ℕ → Option (List ℕ) → Option (List ℕ) → Option (List ℕ) → Option (List ℕ) → ℕ → Type 0
HasToldVerdict most left left' written written' status =
    (judgement : Judgement) × HasJudged most left left' judgement × Appends written written' (judgement_text most judgement) × (status ≡ judgement_status judgement)

-- what was read and written before a judgement stopped for this error
abbrev pub HasStoppedCheck : ℕ → Option (List ℕ) → Option (List ℕ) → Option (List ℕ) → Option (List ℕ) → CheckError → Type 0
HasStoppedCheck most left left' written written' (Replay Read) = Keeps written written'
HasStoppedCheck most left left' written written' (Replay Write) =
    (judgement : Judgement) × HasJudged most left left' judgement × AppendsBeginning written written' (judgement_text most judgement)
HasStoppedCheck most left left' written written' (Replay (Text fault)) = HasNotJudged left left' (CallText fault) × Keeps written written'
HasStoppedCheck most left left' written written' (Replay Memory) = Keeps written written'
HasStoppedCheck most left left' written written' (Order line) = HasNotJudged left left' (CallOrder line) × Keeps written written'

-- the history was judged, the line of a judgement with this status was written, no device failed, and no message was
-- printed
abbrev pub IsJudged : ℕ → Seen → Seen → ℕ → Type 0
IsJudged most before after status = IsDone (λ left left' written written'. HasToldVerdict most left left' written written' status) before after

-- how a judgement ends. If the status is 0, a verdict with this status was written. Otherwise such a verdict was
-- written, or the judgement stopped for an error with this status. The status is at most 4
pub record EndsCheck (most : ℕ) (before after : Seen) (status : ℕ) : Type 0 where
  pub done : status ≡ 0 → IsJudged most before after status
  pub found : 0 < status
      → IsJudged most before after status
      ⊎ ((error : CheckError) × (status ≡ status_of_check error) × IsStoppedFor check_error_text HasFailedCheck (HasStoppedCheck most) before after error)
  pub small : status ≤ 4
