-- What an exploration prints if it stops, and which device has failed.
use Rattle.std.specs.Prelude.{◌≡◌, ◌<◌, ◌≤◌, ◌⊎◌, ℕ, ◌+◌, Bool, true, false, List, ◌++◌, Option, Some, None, codes, decimal, map, not, slice_get, take}
use Rattle.std.specs.Option.{option_copied}
use Rattle.run_command_line.specs.declared.explore_args.ExploreArgs.{ExploreArgs}
use Rattle.run_command_line.specs.declared.explore_args.ShownArgs.{ShownArgs}
use Rattle.run_command_line.specs.declared.explore_args.Told.{Told}
use Rattle.run_command_line.specs.declared.explore_args.Told.TheVariants as told
use Rattle.explore_interleavings.specs.declared.pair.MeshPair.{MeshPair}
use Rattle.explore_report.specs.Errors.{refused}
use Rattle.explore_report.specs.Explorations.{HasExplored, HasTooMany}
use Rattle.explore_report.specs.declared.errors.ExploreError.{ExploreError}
use Rattle.explore_report.specs.declared.errors.ExploreError.TheVariants.{Replay, TooManyStates, NoOutcome, NotShown}
use Rattle.explore_report.specs.declared.wanted.Shown.{Shown}
use Rattle.explore_report.specs.declared.wanted.Wanted.{Wanted}
use Rattle.explore_report.specs.declared.wanted.Wanted.TheVariants as wanted
use Rattle.model_jobs.specs.Texts.{ended}
use Rattle.text_devices.specs.declared.faults.ReplayError.{ReplayError}
use Rattle.text_devices.specs.Transfer.{HasNotReadAll}
use Rattle.run_program.specs.Runs.{EndsBy, HasFailed, HasTold, IsDone, IsStoppedFor, MovesBy, Moves, error_text}
use Rattle.run_program.specs.Conditions.{AreSpelt, unspelt}
use Rattle.run_program.specs.Seen.{Seen}
use Rattle.run_program.specs.declared.criteria.Criteria.{Criteria}
use Rattle.run_program.specs.Status.{status_of_error}
use Rattle.run_program.specs.Steps.{EndsSteps}
use Rattle.run_program.specs.declared.verdict_error.VerdictError.{VerdictError}
use Rattle.run_program.specs.declared.verdict_error.VerdictError.TheVariants.{Explore, NoCondition, NoList, Unmatched}
use Rattle.explore_verdict.specs.Conditions.{demand_word}
use Rattle.explore_verdict.specs.declared.condition.Condition.{Condition}
use Rattle.explore_verdict.specs.declared.condition.Demand.{Demand}
use Rattle.explore_verdict.specs.ListFaults.{list_fault_in}
use Rattle.explore_verdict.specs.Runs.{HasJudged, HasUnmatchable}
use Rattle.explore_verdict.specs.declared.faults.VerdictFault.{VerdictFault}
use Rattle.explore_verdict.specs.declared.faults.VerdictFault.TheVariants as fault
use Rattle.explore_verdict.specs.declared.list_faults.ListFault.{ListFault}
use Rattle.explore_verdict.specs.declared.list_faults.ListFault.TheVariants.{CarriageReturn, OtherLine, NoOutcome as ListNoOutcome}
use Rattle.explore_verdict.specs.declared.mismatches.Mismatch.{Mismatch}
use Rattle.explore_verdict.specs.declared.mismatches.Mismatch.TheVariants.{NoWorker, NoAnswer, TooManyAnswers}
use Rattle.explore_verdict.specs.declared.mismatches.Unmatchable.{Unmatchable}
use Rattle.model_jobs.specs.Jobs.{Job}
use Rattle.text_job.specs.Read.{HasReadJob}

-- an error's line, without its end, and its status. The status is 2 if the file has a fault, or if the outcome or the
-- answer that was asked for doesn't exist, and 4 if there are too many states. Otherwise it is 1
abbrev explore_told : ℕ → ExploreError → List ℕ × ℕ
explore_told states (Replay error) = (error_text error, status_of_error error)
explore_told states TooManyStates = (codes "too many states: more than " ++ decimal states ++ codes "; --states raises the limit", 4)
explore_told states NoOutcome = (codes "no such outcome", 2)
explore_told states NotShown = (codes "no such answer in that phase", 2)

-- an error's line, without its end, for an exploration of at most this number of states. The next definition is the
-- error's status
abbrev pub explore_text : ℕ → ExploreError → List ℕ
explore_text states error = (explore_told states error).0

abbrev pub explore_status : ExploreError → ℕ
explore_status error = (explore_told 0 error).1

-- the device that the error names, if any, has failed
abbrev pub HasFailedExplore : Bool → Bool → ExploreError → Type 0
HasFailedExplore input output (Replay error) = HasFailed input output error
HasFailedExplore input output TooManyStates = Unit {0}
HasFailedExplore input output NoOutcome = Unit {0}
HasFailedExplore input output NotShown = Unit {0}

-- the meshes of an exploration
abbrev pub meshes_of : ExploreArgs → List MeshPair
meshes_of args = take args.meshes.count args.meshes.pairs

-- what was read before an exploration stopped for this error. If there were too many states, a job with too many states
-- was read. The other errors promise nothing
abbrev pub HasStoppedExplore : List MeshPair → Option ℕ → ℕ → MovesBy ExploreError
HasStoppedExplore pairs cancel most left left' written written' TooManyStates = HasTooMany pairs cancel most left left'
HasStoppedExplore pairs cancel most left left' written written' (Replay error) = Unit {0}
HasStoppedExplore pairs cancel most left left' written written' NoOutcome = Unit {0}
HasStoppedExplore pairs cancel most left left' written written' NotShown = Unit {0}

-- how an exploration without a verdict ends. If the status is 0, what is wanted of the job with these meshes and this
-- cancel was written
abbrev pub EndsListing : ExploreArgs → Wanted → Seen → Seen → ℕ → Type 0
EndsListing args wanted before after status =
    EndsBy explore_status (explore_text args.states) HasFailedExplore (HasExplored (meshes_of args) args.cancel args.states wanted)
    (HasStoppedExplore (meshes_of args) args.cancel args.states) before after status

-- this is the answer that is asked for
pub record IsShownOf (args : ShownArgs) (shown : Shown) : Type 0 where
  pub line : shown.line ≡ args.line
  pub answer : shown.answer.now ≡ args.answer.now
  pub phase : shown.phase.now ≡ args.phase.now

-- ---- verdicts

-- why the expected outcomes weren't read: the line of an error with this status was printed. If the error is a read
-- fault, the input has failed
pub record IsUnreadFor (input_failed errors_failed : Bool) (told told' : Option (List ℕ)) (status : ℕ) : Type 0 where
  pub error : ReplayError
  pub is_status : status ≡ status_of_error error
  pub failed : HasNotReadAll input_failed error
  pub line : HasTold errors_failed told told' (ended (error_text error))

-- the job was read, and the verdict on its outcomes was written: whether the outcomes meet the criteria
abbrev pub HasJudgedBy : ExploreArgs → Criteria → Bool → Moves
HasJudgedBy args criteria well left left' written written' =
    (conditions : List Condition) × AreSpelt criteria conditions
    × (list_fault_in (option_copied criteria.expected) ≡ None)
    × HasJudged (meshes_of args) args.cancel args.states (not args.allows_no_mesh) conditions (option_copied criteria.expected) left left' written written' well

-- the error of a fault of the verdict
abbrev pub error_of_fault : VerdictFault → VerdictError
error_of_fault (fault.Explore error) = Explore error
error_of_fault (fault.NoList fault) = NoList fault
error_of_fault (fault.Unmatched condition) = Unmatched condition

-- why no outcome can match a pattern
abbrev why_text : Mismatch → List ℕ
why_text NoWorker = codes ": the job has no such worker"
why_text NoAnswer = codes ": no command has such an answer"
why_text TooManyAnswers = codes ": more answers than commands"

-- the option of a demand, with a space
abbrev pub option_text : Demand → List ℕ
option_text demand = codes "--" ++ demand_word demand ++ codes " "

-- the line for a condition whose pattern no outcome can match, without its end
abbrev pub unmatched_text : Unmatchable → List ℕ
unmatched_text condition = option_text condition.demand ++ decimal condition.number ++ why_text condition.mismatch

-- the line for a text that is no list of outcomes, without its end
abbrev pub list_text : ListFault → List ℕ
list_text (CarriageReturn line) = codes "--expect: line " ++ decimal line ++ codes ": a carriage return"
list_text (OtherLine line) = codes "--expect: line " ++ decimal line ++ codes ": no line of a listing"
list_text ListNoOutcome = codes "--expect: no outcome is listed"

-- an error's line, without its end
abbrev pub verdict_text : ℕ → VerdictError → List ℕ
verdict_text states (Explore error) = explore_text states error
verdict_text states (Unmatched condition) = unmatched_text condition
verdict_text states (NoList fault) = list_text fault
verdict_text states (NoCondition demand number) = option_text demand ++ decimal number ++ codes ": no condition 'W: ANSWER | ..'"

-- the status of an error that prevents a verdict: 2 for a condition or a list that can't be judged, otherwise the
-- status of the exploration's error
abbrev pub verdict_status : VerdictError → ℕ
verdict_status (Explore error) = explore_status error
verdict_status (NoCondition demand number) = 2
verdict_status (Unmatched condition) = 2
verdict_status (NoList fault) = 2

-- the device that the error names, if any, has failed
abbrev pub HasFailedVerdict : Bool → Bool → VerdictError → Type 0
HasFailedVerdict input output (Explore error) = HasFailedExplore input output error
HasFailedVerdict input output (NoCondition demand number) = Unit {0}
HasFailedVerdict input output (Unmatched condition) = Unit {0}
HasFailedVerdict input output (NoList fault) = Unit {0}

-- what was read before an exploration stopped for this error without a verdict
abbrev pub HasStoppedVerdict : ExploreArgs → Criteria → MovesBy VerdictError
HasStoppedVerdict args criteria left left' written written' (Explore error) =
    HasStoppedExplore (meshes_of args) args.cancel args.states left left' written written' error
HasStoppedVerdict args criteria left left' written written' (NoCondition demand number) = unspelt criteria ≡ Some (demand, number)
HasStoppedVerdict args criteria left left' written written' (NoList fault) = list_fault_in (option_copied criteria.expected) ≡ Some fault
HasStoppedVerdict args criteria left left' written written' (Unmatched condition) =
    (job : Job) × (conditions : List Condition) × HasReadJob left left' job × AreSpelt criteria conditions
    × HasUnmatchable (meshes_of args) args.cancel conditions job condition

-- a verdict was written, no device failed, and no message was printed
abbrev pub IsJudged : ExploreArgs → Criteria → Bool → Seen → Seen → Type 0
IsJudged args criteria well before after = IsDone (HasJudgedBy args criteria well) before after

-- how a verdict ends. If the status is 0, the outcomes meet the criteria. Otherwise the status is 3 and they don't, or
-- the exploration stopped for an error with this status. The status is at most 4
pub record EndsVerdict (args : ExploreArgs) (criteria : Criteria) (before after : Seen) (status : ℕ) : Type 0 where
  pub done : status ≡ 0 → IsJudged args criteria true before after
  pub found : 0 < status → ((status ≡ 3) × IsJudged args criteria false before after)
      ⊎ ((error : VerdictError) × (status ≡ verdict_status error)
      × IsStoppedFor (verdict_text args.states) HasFailedVerdict (HasStoppedVerdict args criteria) before after error)
  pub small : status ≤ 4

-- ---- explorations

-- how an exploration with this kind of report ends
abbrev pub EndsTold : ExploreArgs → Told → Criteria → Seen → Seen → ℕ → Type 0
EndsTold args told.All criteria before after status = EndsListing args wanted.All before after status
EndsTold args (told.Outcome number) criteria before after status = EndsListing args (wanted.Outcome number) before after status
EndsTold args (told.Answer shown) criteria before after status =
    (asked : Shown) × IsShownOf shown asked × EndsListing args (wanted.Answer asked) before after status
EndsTold args (told.Verdict expect) criteria before after status = EndsVerdict args criteria before after status
EndsTold args (told.Steps asked) criteria before after status = EndsSteps args asked before after status

-- how an exploration ends
abbrev pub EndsExplore : ExploreArgs → Criteria → Seen → Seen → ℕ → Type 0
EndsExplore args criteria before after status = EndsTold args args.told criteria before after status
