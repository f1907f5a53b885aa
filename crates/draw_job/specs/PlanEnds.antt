-- Plans that end before the first line that is asked for.
use Rattle.std.specs.Prelude.{◌≡◌, ◌≤◌, ◌<◌, ℕ, List, Option, length, max}
use Rattle.std.specs.Io.KnownBytes.{Keeps}
use Rattle.draw_job.specs.declared.draw_error.DrawError.{DrawError}
use Rattle.draw_job.specs.declared.draw_error.DrawError.TheVariants.{Replay, PlanEnds}
use Rattle.mesh_text.specs.Replay.{HasPlayed}
use Rattle.model_jobs.specs.Jobs.{Job}
use Rattle.text_devices.specs.declared.faults.ReplayError.{ReplayError}
use Rattle.text_job.specs.Read.{HasReadNoJob}

-- the plan has the first line that is asked for. This is line `from`, or line 1 if `from` is 0
abbrev pub HasLine : ℕ → Job → Type 0
HasLine from job = max from 1 ≤ length job.plan

-- the plan has this number of lines, and ends before the first line that is asked for
abbrev pub EndsBefore : ℕ → ℕ → Job → Type 0
EndsBefore from lines job = (lines ≡ length job.plan) × (lines < max from 1)

-- a job was read whose plan has the first line that is asked for, and this holds for the job
abbrev pub HasShown : ℕ → Option (List ℕ) → Option (List ℕ) → (Job → Type 0) → Type 0
HasShown from left left' Does = HasPlayed left left' (λ job. HasLine from job × Does job)

-- what was read if this error prevented that such a job was read
abbrev pub HasReadNoPlan : ℕ → Option (List ℕ) → Option (List ℕ) → DrawError → Type 0
HasReadNoPlan from left left' (Replay error) = HasReadNoJob left left' error
HasReadNoPlan from left left' (PlanEnds lines) = HasPlayed left left' (EndsBefore from lines)

-- what was read and written before this error. If the error stops a replay too, `Stops` says this. If the plan ends
-- before the first line that is asked for, a job with such a plan was read, and nothing was written
abbrev pub StopsBefore : ℕ → (Option (List ℕ) → Option (List ℕ) → Option (List ℕ) → Option (List ℕ) → ReplayError → Type 0) → Option (List ℕ) → Option (List ℕ)
    → Option (List ℕ) → Option (List ℕ) → DrawError → Type 0
StopsBefore from Stops left left' written written' (Replay error) = Stops left left' written written' error
StopsBefore from Stops left left' written written' (PlanEnds lines) = HasPlayed left left' (EndsBefore from lines) × Keeps written written'
