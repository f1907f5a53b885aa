-- The points of a job's plan that a painter is shown, one after the other.
use Rattle.std.specs.Prelude.{◌≡◌, ◌≤◌, ◌<◌, ℕ, ◌+◌, ◌++◌, List, Option, None, Some, max}
use Rattle.model_jobs.specs.Jobs.{Job}
use Rattle.model_jobs.specs.Texts.{ended}
use Rattle.mesh_mutator.specs.Book.{Book}
use Rattle.mesh_steps.specs.Always.{HasReadOnlyOfMeshes}
use Rattle.mesh_text.specs.Turns.{IsAt, lines_up_to, state_up_to}
use Rattle.draw_job.specs.Captions.{IsCaption}
use Rattle.draw_job.specs.Frames.{IsFrame}
use Rattle.draw_job.specs.declared.points.PlayedLine.{PlayedLine}
use Rattle.draw_picture.specs.declared.frame.Frame.{Frame}

-- the point after `played` lines of the plan, at least one: the caption of the last line, the answer to it, and a frame
-- of the heap in the job's state after it. In this heap, a page is read-only if and only if a running mesh protects it
pub record IsPoint (job : Job) (played : ℕ) (words answer : List ℕ) (frame : Frame) : Type 0 where
  pub book : Book
  pub places : List ℕ
  pub at : IsAt job (state_up_to job played) book places
  pub read_only : HasReadOnlyOfMeshes book.heap
  pub shown : IsFrame book.heap frame
  pub before : ℕ
  pub last : before + 1 ≡ played
  pub said : IsCaption job before words
  pub told : lines_up_to job played ≡ lines_up_to job before ++ ended answer

-- the point after `played` lines of the plan, if line `from` is the first to show: none if the last of these lines
-- comes before it
abbrev pub IsPointFrom : Job → ℕ → ℕ → Option PlayedLine → Type 0
IsPointFrom job from played None = played < from
IsPointFrom job from played (Some line) = (from ≤ played) × IsPoint job played line.words.items line.answer.items line.frame

-- the number of the line that a painter is shown next, if `played` lines were played and the first line to show is
-- `from`
abbrev pub next_shown : ℕ → ℕ → ℕ
next_shown from played = max from (played + 1)
