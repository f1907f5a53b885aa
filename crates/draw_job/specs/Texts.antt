-- The text of the points of a plan, and what was read and written when this text was asked for.
use Rattle.std.specs.Prelude.{◌≡◌, ◌⊎◌, ◌≤◌, ◌<◌, ℕ, zero, suc, List, [], ◌++◌, Option, length, max, min}
use Rattle.std.specs.Io.KnownBytes.{Appends, Keeps}
use Rattle.model_jobs.specs.Jobs.{Job}
use Rattle.mesh_text.specs.Replay.{HasPlayed}
use Rattle.text_job.specs.Read.{HasFound}
use Rattle.text_devices.specs.Transfer.{AppendsBeginning}
use Rattle.text_devices.specs.declared.faults.ReplayError.{ReplayError}
use Rattle.text_devices.specs.declared.faults.ReplayError.TheVariants.{Read, Write, Text, Memory}
use Rattle.draw_picture.specs.declared.frame.Frame.{Frame}
use Rattle.draw_text.specs.Points.{point_text}
use Rattle.draw_job.specs.Forms.{formed}
use Rattle.draw_job.specs.PlanEnds.{HasShown}
use Rattle.draw_job.specs.Points.{IsPoint}
use Rattle.draw_job.specs.declared.forms.Form.{Form}

-- this is the text of the point after line `n` of the plan
pub record IsPointText (job : Job) (n : ℕ) (text : List ℕ) : Type 0 where
  pub words : List ℕ
  pub answer : List ℕ
  pub frame : Frame
  pub point : IsPoint job n words answer frame
  pub is : text ≡ point_text n words answer frame

-- this is the text for line `n` if line `from` is the first that is asked for: nothing for an earlier line, and
-- otherwise the text of the point after line `n`
abbrev pub IsLineText : Job → ℕ → ℕ → List ℕ → Type 0
IsLineText job from n text = ((n < from) × (text ≡ [])) ⊎ ((from ≤ n) × IsPointText job n text)

-- a text of two parts, for which these hold
pub record HasParts (First Last : List ℕ → Type 0) (text : List ℕ) : Type 0 where
  pub first : List ℕ
  pub last : List ℕ
  pub is_first : First first
  pub is_last : Last last
  pub all : text ≡ first ++ last

-- this is the text of the points after the first `n` lines of the plan, from line `from` on
abbrev pub IsTextUpTo : Job → ℕ → ℕ → List ℕ → Type 0
IsTextUpTo job from zero text = text ≡ []
IsTextUpTo job from (suc n) text = HasParts (IsTextUpTo job from n) (IsLineText job from (suc n)) text

-- this holds for the text of the points after the lines from line `from` to line `to`, or to the end of the plan
pub record HoldsForAll (from to : ℕ) (job : Job) (Holds : List ℕ → Type 0) : Type 0 where
  pub text : List ℕ
  pub is_text : IsTextUpTo job from (min to (length job.plan)) text
  pub holds : Holds text

-- this holds for the text of the points after the lines from line `from` to some line, which is not past line `to` or
-- the end of the plan
pub record HoldsForSome (from to : ℕ) (job : Job) (Holds : List ℕ → Type 0) : Type 0 where
  pub lines : ℕ
  pub within : lines ≤ min to (length job.plan)
  pub text : List ℕ
  pub is_text : IsTextUpTo job from lines text
  pub holds : Holds text

-- the text of the points after the lines from line `from` to line `to`, or to the end of the plan, was written
abbrev pub HasWrittenText : ℕ → ℕ → Job → Option (List ℕ) → Option (List ℕ) → Type 0
HasWrittenText from to job written written' = HoldsForAll from to job (Appends written written')

-- the text of some of these points was written, from the first one on
abbrev pub HasWrittenSome : ℕ → ℕ → Job → Option (List ℕ) → Option (List ℕ) → Type 0
HasWrittenSome from to job written written' = HoldsForSome from to job (Appends written written')

-- a beginning of the text of some of these points was written
abbrev pub HasBegunText : ℕ → ℕ → Job → Option (List ℕ) → Option (List ℕ) → Type 0
HasBegunText from to job written written' = HoldsForSome from to job (AppendsBeginning written written')

-- what was written of a job's points in this form before this error: the text of some of the points if an allocation
-- failed, and a beginning of such a text if the output failed. `Read` and `Text` aren't possible, because the job was
-- read before
abbrev pub HasWrittenUntil : Form → ℕ → ℕ → Job → Option (List ℕ) → Option (List ℕ) → ReplayError → Type 0
HasWrittenUntil form from to job written written' Read = ⊥
HasWrittenUntil form from to job written written' Write = HoldsForSome from to job (λ text. AppendsBeginning written written' (formed form text))
HasWrittenUntil form from to job written written' (Text fault) = ⊥
HasWrittenUntil form from to job written written' Memory = HoldsForSome from to job (λ text. Appends written written' (formed form text))

-- a job was read whose plan has the first line that is asked for, and the text of the points that are asked for was
-- written. The first line of a plan has number 1
abbrev pub HasDescribed : ℕ → ℕ → Option (List ℕ) → Option (List ℕ) → Option (List ℕ) → Option (List ℕ) → Type 0
HasDescribed from to left left' written written' = HasShown from left left' (λ job. HasWrittenText (max from 1) to job written written')

-- what was read and written before this error. If the input failed, or if its text has this fault, nothing was written.
-- If the output failed, a job was read, and a beginning of the text of its points was written. If an allocation failed,
-- either nothing was written, or a job was read, and the text of its points up to some line was written
abbrev pub HasNotDescribed : ℕ → ℕ → Option (List ℕ) → Option (List ℕ) → Option (List ℕ) → Option (List ℕ) → ReplayError → Type 0
HasNotDescribed from to left left' written written' Read = Keeps written written'
HasNotDescribed from to left left' written written' Write = HasPlayed left left' (λ job. HasBegunText (max from 1) to job written written')
HasNotDescribed from to left left' written written' (Text fault) = HasFound left left' fault × Keeps written written'
HasNotDescribed from to left left' written written' Memory =
    Keeps written written' ⊎ HasPlayed left left' (λ job. HasWrittenSome (max from 1) to job written written')
