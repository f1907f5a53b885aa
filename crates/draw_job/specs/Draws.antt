-- What was read and written by a drawing, whether it is complete or not.
use Rattle.std.specs.Prelude.{◌≡◌, ℕ, List, Option, codes, length, max, min}
use Rattle.std.specs.Io.KnownBytes.{Appends, Keeps}
use Rattle.model_jobs.specs.Jobs.{Job}
use Rattle.draw_job.specs.Notes.{lines_shown, note_of_job}
use Rattle.draw_job.specs.PlanEnds.{HasLine}
use Rattle.draw_job.specs.Points.{next_shown}
use Rattle.draw_job.specs.declared.run.Shown.{Shown}
use Rattle.draw_picture.specs.Cards.{HasWords, IsHead}
use Rattle.draw_picture.specs.Notes.{file_title, shown_title}
use Rattle.draw_picture.specs.Pictures.{Shown as Picture}
use Rattle.draw_svg.specs.Begins.{Begins}
use Rattle.draw_svg.specs.Files.{root_text}
use Rattle.text_job.specs.Read.{HasFound, HasReadJob}
use Rattle.text_devices.specs.declared.faults.ReplayError.{ReplayError}
use Rattle.text_devices.specs.declared.faults.ReplayError.TheVariants.{Read, Write, Text, Memory}

-- what was read and written before a drawing stopped for this error. If the input failed, or if its text was read and
-- has this fault, nothing was written. The other errors promise nothing
abbrev pub HasNotDrawn : Option (List ℕ) → Option (List ℕ) → Option (List ℕ) → Option (List ℕ) → ReplayError → Type 0
HasNotDrawn left left' written written' Read = Keeps written written'
HasNotDrawn left left' written written' Write = Unit {0}
HasNotDrawn left left' written written' (Text fault) = HasFound left left' fault × Keeps written written'
HasNotDrawn left left' written written' Memory = Unit {0}

-- some bytes were written
abbrev pub HasWritten : Option (List ℕ) → Option (List ℕ) → Type 0
HasWritten written written' = (bytes : List ℕ) × Appends written written' bytes

-- a text that begins with `<svg` was written. It begins as the file of this picture does
pub record HasDrawnPicture (picture : Picture) (written written' : Option (List ℕ)) : Type 0 where
  pub text : List ℕ
  pub wrote : Appends written written' text
  pub is_svg : Begins (codes "<svg") text
  pub is_head : IsHead picture text

-- the picture of a job with this name was written, from line `from` to line `to` of its plan. The text begins with
-- `<svg` and has the title of the file, escaped. It has the name as the title that is drawn, and a note with the values
-- of the job's header and the numbers of the lines that are shown
pub record HasDrawn (name : List ℕ) (from to : ℕ) (job : Job) (written written' : Option (List ℕ)) : Type 0 where
  pub text : List ℕ
  pub wrote : Appends written written' text
  pub is_svg : Begins (codes "<svg") text
  pub width : ℕ
  pub height : ℕ
  pub titled : Begins (root_text (file_title name) width height) text
  pub named : HasWords (shown_title name) text
  pub note : List ℕ
  pub says : Begins (note_of_job job (lines_shown job from to)) note
  pub noted : HasWords note text

-- a job was read whose plan has the first line that is asked for, and its picture was written
pub record HasDrawnJob (name : List ℕ) (from to : ℕ) (left left' written written' : Option (List ℕ)) : Type 0 where
  pub job : Job
  pub read : HasReadJob left left' job
  pub line : HasLine from job
  pub drawn : HasDrawn name from to job written written'

-- both painters were shown each point that is asked for: from line `from` to line `to` or to the end of the plan,
-- whichever is first
abbrev pub AreShown : Job → ℕ → ℕ → Shown → Type 0
AreShown job from to shown =
    (shown.measured ≡ next_shown (max from 1) (min (min to 1048576) (length job.plan)))
    × (shown.drawn ≡ next_shown (max from 1) (min (min to 1048576) (length job.plan)))
