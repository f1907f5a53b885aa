-- The page of the points of a plan, and what was read and written when this page was asked for.
use Rattle.std.specs.Prelude.{◌⊎◌, ℕ, List, Option, max}
use Rattle.std.specs.Io.KnownBytes.{Appends, Keeps}
use Rattle.draw_html.specs.Pages.{page_front, page_text}
use Rattle.draw_job.specs.PlanEnds.{HasShown}
use Rattle.draw_job.specs.Texts.{HoldsForAll, HoldsForSome}
use Rattle.draw_picture.specs.Notes.{file_title}
use Rattle.mesh_text.specs.Replay.{HasPlayed}
use Rattle.model_jobs.specs.Jobs.{Job}
use Rattle.text_devices.specs.Transfer.{AppendsBeginning}
use Rattle.text_devices.specs.declared.faults.ReplayError.{ReplayError}
use Rattle.text_devices.specs.declared.faults.ReplayError.TheVariants.{Read, Write, Text, Memory}
use Rattle.text_job.specs.Read.{HasFound}

-- the page with this title of the points after the lines from line `from` to line `to`, or to the end of the plan, was
-- written
abbrev pub HasWrittenPage : List ℕ → ℕ → ℕ → Job → Option (List ℕ) → Option (List ℕ) → Type 0
HasWrittenPage title from to job written written' = HoldsForAll from to job (λ text. Appends written written' (page_text title text))

-- the page was written up to the text of some of these points, from the first one on
abbrev pub HasWrittenFront : List ℕ → ℕ → ℕ → Job → Option (List ℕ) → Option (List ℕ) → Type 0
HasWrittenFront title from to job written written' = HoldsForSome from to job (λ text. Appends written written' (page_front title text))

-- a beginning was written of the page up to the text of some of these points, or of the whole page
abbrev pub HasBegunPage : List ℕ → ℕ → ℕ → Job → Option (List ℕ) → Option (List ℕ) → Type 0
HasBegunPage title from to job written written' =
    HoldsForSome from to job (λ text. AppendsBeginning written written' (page_front title text))
    ⊎ HoldsForAll from to job (λ text. AppendsBeginning written written' (page_text title text))

-- what was written for a job before this error. `Read` and `Text` aren't possible, because the job was read before
abbrev pub HasStoppedPage : List ℕ → ℕ → ℕ → Job → Option (List ℕ) → Option (List ℕ) → ReplayError → Type 0
HasStoppedPage title from to job written written' Read = ⊥
HasStoppedPage title from to job written written' Write = HasBegunPage title from to job written written'
HasStoppedPage title from to job written written' (Text fault) = ⊥
HasStoppedPage title from to job written written' Memory = Keeps written written' ⊎ HasWrittenFront title from to job written written'

-- a job was read whose plan has the first line that is asked for, and the page of the points that are asked for was
-- written, with the title for the name of the job's file. The first line of a plan has number 1
abbrev pub HasPresented : List ℕ → ℕ → ℕ → Option (List ℕ) → Option (List ℕ) → Option (List ℕ) → Option (List ℕ) → Type 0
HasPresented name from to left left' written written' =
    HasShown from left left' (λ job. HasWrittenPage (file_title name) (max from 1) to job written written')

-- what was read and written before this error. If the input failed, or if its text has this fault, nothing was written.
-- If the output failed, a job was read, and a beginning of its page was written. If an allocation failed, either
-- nothing was written, or a job was read, and its page was written up to the text of the points up to some line
abbrev pub HasNotPresented : List ℕ → ℕ → ℕ → Option (List ℕ) → Option (List ℕ) → Option (List ℕ) → Option (List ℕ) → ReplayError → Type 0
HasNotPresented name from to left left' written written' Read = Keeps written written'
HasNotPresented name from to left left' written written' Write =
    HasPlayed left left' (λ job. HasBegunPage (file_title name) (max from 1) to job written written')
HasNotPresented name from to left left' written written' (Text fault) = HasFound left left' fault × Keeps written written'
HasNotPresented name from to left left' written written' Memory =
    Keeps written written' ⊎ HasPlayed left left' (λ job. HasWrittenFront (file_title name) (max from 1) to job written written')
