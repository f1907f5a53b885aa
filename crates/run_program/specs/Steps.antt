-- What a report on meshes that are made by a list of steps writes, and what was read and written if it stops.
use Rattle.std.specs.Prelude.{◌≡◌, ◌<◌, ◌≤◌, ◌⊎◌, ℕ, ◌-◌, Bool, true, false, List, [], ◌++◌, codes, decimal, is_some, length, map, min, not, option_map, slice_index_or, take}
use Rattle.std.specs.Option.{unwrap_or}
use Rattle.explore_interleavings.specs.declared.pair.MeshPair.{MeshPair}
use Rattle.explore_otherwise.specs.declared.setting.Pair.{Pair}
use Rattle.explore_otherwise.specs.Settings.{pair_of}
use Rattle.model_otherwise.specs.States.{Pair as PairParts}
use Rattle.otherwise_report.specs.Runs.{HasReported, HasStopped}
use Rattle.otherwise_report.specs.declared.errors.StepsError.{StepsError}
use Rattle.otherwise_report.specs.declared.errors.StepsError.TheVariants.{Replay, TooManyStates, Steps, PlanLine, NothingWrong}
use Rattle.otherwise_report.specs.declared.list_fault.ListFault.{ListFault}
use Rattle.otherwise_report.specs.declared.list_fault.ListFault.TheVariants.{WordCount, NoStep, NotJoined, NotByPage, Parenthesis, Unclosed}
use Rattle.text_fields.specs.Lines.{line_fields}
use Rattle.run_command_line.specs.Meshes.{pairs_of}
use Rattle.run_command_line.specs.declared.explore_args.ExploreArgs.{ExploreArgs}
use Rattle.run_command_line.specs.declared.explore_args.StepsArgs.{StepsArgs}
use Rattle.run_program.specs.Runs.{HasFailed, IsDone, IsStoppedFor, Moves, MovesBy, error_text}
use Rattle.run_program.specs.Seen.{Seen}
use Rattle.run_program.specs.Status.{status_of_error}

-- the text of the list of steps that is asked for
abbrev pub list_text : StepsArgs → List ℕ
list_text asked = unwrap_or (option_map (λ list. list.now) asked.list) (codes "protect copy remap unprotect release")

-- the two groups of a mesh, as an exploration with a list of steps has them
abbrev pub pair_asked : MeshPair → Pair
pair_asked pair = record { source = pair.source; destination = pair.destination }

-- the meshes of an exploration
abbrev pub pairs_asked : ExploreArgs → List PairParts
pairs_asked args = map pair_of (map pair_asked (pairs_of args.meshes))

-- the bytes of a word that are shown: at most 40
abbrev pub shown : List ℕ → List ℕ
shown word = take (min (length word) 40) word

-- the word of a list that has this number, counted from 1, as far as it is shown
abbrev pub word_shown : List ℕ → ℕ → List ℕ
word_shown list number = shown (slice_index_or (line_fields list) (number - 1) [])

-- what is wrong with the word of this number
abbrev pub word_text : List ℕ → ℕ → List ℕ → List ℕ
word_text list number what = codes "--steps: word " ++ decimal number ++ codes " '" ++ word_shown list number ++ codes "': " ++ what

-- why a text is no list of steps
abbrev pub list_fault_text : List ℕ → ListFault → List ℕ
list_fault_text list WordCount = codes "--steps: 1 to 12 phases with one space between words"
list_fault_text list (NoStep number) = word_text list number (codes "no step")
list_fault_text list (NotJoined number) = word_text list number (codes "steps that can't be joined")
list_fault_text list (NotByPage number) = word_text list number (codes "not made page by page")
list_fault_text list (Parenthesis number) = word_text list number (codes "parenthesis out of place")
list_fault_text list Unclosed = codes "--steps: ( without )"

-- an error's line, without its end, for an exploration with this list of steps and at most this number of states
abbrev pub steps_text : List ℕ → ℕ → StepsError → List ℕ
steps_text list states (Replay error) = error_text error
steps_text list states TooManyStates = codes "too many states: more than " ++ decimal states ++ codes "; --states raises the limit"
steps_text list states (Steps fault) = list_fault_text list fault
steps_text list states (PlanLine number) = codes "plan line " ++ decimal number ++ codes ": neither an answered run nor a whole mesh"
steps_text list states NothingWrong = codes "nothing is wrong: there is no plan to draw"

-- the status of an error that stops a report: 2 if the list of steps or the job can't be used, 3 if there is nothing to
-- draw, 4 if there are too many states, otherwise that of a replay's error
abbrev pub steps_status : StepsError → ℕ
steps_status (Replay error) = status_of_error error
steps_status TooManyStates = 4
steps_status (Steps fault) = 2
steps_status (PlanLine number) = 2
steps_status NothingWrong = 3

-- the device that the error names, if any, has failed
abbrev pub HasFailedSteps : Bool → Bool → StepsError → Type 0
HasFailedSteps input output (Replay error) = HasFailed input output error
HasFailedSteps input output TooManyStates = Unit {0}
HasFailedSteps input output (Steps fault) = Unit {0}
HasFailedSteps input output (PlanLine number) = Unit {0}
HasFailedSteps input output NothingWrong = Unit {0}

-- the job was read, and the report was written: whether nothing is wrong. Or the picture that is asked for was written
abbrev pub HasReportedBy : ExploreArgs → StepsArgs → Bool → Moves
HasReportedBy args asked well left left' written written' =
    HasReported (list_text asked) (pairs_asked args) asked.commands asked.timing args.states (not args.allows_no_mesh) (is_some asked.picture) left left' written written' well

-- what was read before a report stopped for this error
abbrev pub HasStoppedSteps : ExploreArgs → StepsArgs → MovesBy StepsError
HasStoppedSteps args asked left left' written written' error = HasStopped (list_text asked) (pairs_asked args) asked.commands asked.timing args.states (is_some asked.picture) left left' error

-- how a report ends. If the status is 0, nothing is wrong, and each mesh that must begin does so in some interleaving.
-- Otherwise the status is 3 and something is wrong, or the exploration stopped for an error with this status. The
-- status is at most 4
pub record EndsSteps (args : ExploreArgs) (asked : StepsArgs) (before after : Seen) (status : ℕ) : Type 0 where
  pub done : status ≡ 0 → IsDone (HasReportedBy args asked true) before after
  pub found : 0 < status → ((status ≡ 3) × IsDone (HasReportedBy args asked false) before after)
      ⊎ ((error : StepsError) × (status ≡ steps_status error)
      × IsStoppedFor (steps_text (list_text asked) args.states) HasFailedSteps (HasStoppedSteps args asked) before after error)
  pub small : status ≤ 4
