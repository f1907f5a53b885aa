-- The lines of a plan that a picture shows, and the note that tells their numbers.
use Rattle.std.specs.Prelude.{ℕ, List, Option, Some, length, max, min}
use Rattle.model_jobs.specs.Jobs.{Job}
use Rattle.model_words.specs.declared.versions.Version.{Version}
use Rattle.model_words.specs.declared.versions.Version.TheVariants.{One, Two}
use Rattle.draw_job.specs.Points.{next_shown}
use Rattle.draw_picture.specs.Notes.{lines_between, note_text}

-- the number of a version, as in a job file
abbrev pub version_number : Version → ℕ
version_number One = 1
version_number Two = 2

-- the first and the last line of a job's plan whose points are shown, if there are any: the lines from line `from`, or
-- from the first line if `from` is 0, to line `to` or to the end of the plan, whichever is first
abbrev pub lines_shown : Job → ℕ → ℕ → Option (ℕ × ℕ)
lines_shown job from to = lines_between (max from 1) (next_shown (max from 1) (min (min to 1048576) (length job.plan)))

-- how the note after a picture's title begins: the values of the job's header, and the lines that are shown
abbrev pub note_of_job : Job → Option (ℕ × ℕ) → List ℕ
note_of_job job lines = note_text (version_number job.version) job.pages (Some (length job.scripts)) lines
