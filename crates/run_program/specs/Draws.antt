-- How a drawing and a live session end. A failure of the output is never reported as out of memory.
use Rattle.std.specs.Prelude.{◌≡◌, ℕ, Bool, List, ◌++◌, codes, decimal, false}
use Rattle.draw_job.specs.Draws.{HasDrawnJob, HasNotDrawn}
use Rattle.draw_job.specs.Pages.{HasNotPresented, HasPresented}
use Rattle.draw_job.specs.PlanEnds.{StopsBefore}
use Rattle.draw_job.specs.Texts.{HasDescribed, HasNotDescribed}
use Rattle.draw_job.specs.declared.draw_error.DrawError.{DrawError}
use Rattle.draw_job.specs.declared.draw_error.DrawError.TheVariants.{Replay, PlanEnds}
use Rattle.run_command_line.specs.declared.draw_args.DrawArgs.{DrawArgs}
use Rattle.run_live.specs.Runs.{HasLived, HasStopped}
use Rattle.run_live.specs.declared.sizes.Sizes.{Sizes}
use Rattle.run_program.specs.Runs.{EndsBy, HasFailed, Moves, MovesBy, error_text}
use Rattle.run_program.specs.Seen.{Seen}
use Rattle.run_program.specs.Status.{status_of_error}
use Rattle.text_devices.specs.declared.faults.ReplayError.{ReplayError}
use Rattle.text_devices.specs.declared.faults.ReplayError.TheVariants.{Read, Write, Memory, Text}

-- the device that the error names, if any, has failed. If the error is out of memory, the output hasn't failed
abbrev pub HasFailedAlone : Bool → Bool → ReplayError → Type 0
HasFailedAlone input output Memory = output ≡ false
HasFailedAlone input output Read = HasFailed input output Read
HasFailedAlone input output Write = HasFailed input output Write
HasFailedAlone input output (Text fault) = HasFailed input output (Text fault)

-- the line about a plan that has this number of lines, and ends before line `from`, without its end
abbrev pub plan_ends_text : ℕ → ℕ → List ℕ
plan_ends_text from lines = codes "the plan ends at line " ++ decimal lines ++ codes ", before --from " ++ decimal from

-- the line of an error of a drawing from line `from` on, without its end
abbrev pub draw_error_text : ℕ → DrawError → List ℕ
draw_error_text from (Replay error) = error_text error
draw_error_text from (PlanEnds lines) = plan_ends_text from lines

-- the status of an error of a drawing: 2 if the plan ends before the first line, otherwise that of a replay
abbrev pub draw_status : DrawError → ℕ
draw_status (Replay error) = status_of_error error
draw_status (PlanEnds lines) = 2

-- what `Fails` says of the devices if the error stops a replay too
abbrev pub FailsAsReplay : (Bool → Bool → ReplayError → Type 0) → Bool → Bool → DrawError → Type 0
FailsAsReplay Fails input output (Replay error) = Fails input output error
FailsAsReplay Fails input output (PlanEnds lines) = Unit {0}

-- how a run ends that shows points of a plan from line `from` on
abbrev pub EndsShown : ℕ → (Bool → Bool → ReplayError → Type 0) → Moves → MovesBy ReplayError → Seen → Seen → ℕ → Type 0
EndsShown from Fails Does Stops before after status =
    EndsBy draw_status (draw_error_text from) (FailsAsReplay Fails) Does (StopsBefore from Stops) before after status

-- how a drawing ends. If the status is 0, a job was read and its picture was written, with this name in its titles and
-- the lines of the plan that the arguments ask for
abbrev pub EndsDraw : List ℕ → DrawArgs → Seen → Seen → ℕ → Type 0
EndsDraw name args before after status = EndsShown args.from HasFailedAlone (HasDrawnJob name args.from args.to) HasNotDrawn before after status

-- how a run ends that writes the heap after each line of a plan. If the status is 0, a job was read, and the text of
-- the lines that the arguments ask for was written
abbrev pub EndsDrawText : DrawArgs → Seen → Seen → ℕ → Type 0
EndsDrawText args before after status = EndsShown args.from HasFailed (HasDescribed args.from args.to) (HasNotDescribed args.from args.to) before after status

-- how a run ends that writes a page of the heaps after the lines of a plan. If the status is 0, a job was read, and the
-- page of the lines that the arguments ask for was written, with the title for this name
abbrev pub EndsDrawHtml : List ℕ → DrawArgs → Seen → Seen → ℕ → Type 0
EndsDrawHtml name args before after status =
    EndsShown args.from HasFailed (HasPresented name args.from args.to) (HasNotPresented name args.from args.to) before after status

-- how a live session ends
abbrev pub EndsLive : Sizes → Seen → Seen → ℕ → Type 0
EndsLive sizes before after status =
    EndsBy status_of_error error_text HasFailedAlone (HasLived sizes) (λ left left' written written' error. HasStopped sizes left written written') before after status
