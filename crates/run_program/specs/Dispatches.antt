-- How the run ends that a command line asks for.
use Rattle.std.specs.Prelude.{◌≡◌, ℕ, Bool, true, false, ◌||◌, List, Option}
use Rattle.std.specs.Io.KnownBytes.{prepend_known}
use Rattle.std.specs.Option.{option_copied}
use Rattle.mesh_text.specs.Echo.{HasEchoed, HasStoppedEcho}
use Rattle.mesh_text.specs.Recorded.{HasReplayedRecorded, HasStoppedRecorded}
use Rattle.mesh_text.specs.Replay.{HasReplayed, HasStopped}
use Rattle.run_command_line.specs.Conditions.{ConditionTexts, conditions_of}
use Rattle.run_command_line.specs.declared.check_args.CheckArgs.{CheckArgs}
use Rattle.run_command_line.specs.declared.command_line.Args.{Args}
use Rattle.run_command_line.specs.declared.command_line.Args.TheVariants.{Replay, ReplayHistory, ReplayEcho, Threads, ThreadsHistory, ThreadsPaced, ThreadsReport, Draw, DrawHtml, DrawText, Live, Explore, Check, Savings}
use Rattle.run_command_line.specs.declared.explore_args.ExploreArgs.{ExploreArgs}
use Rattle.run_command_line.specs.declared.requested.Request.{Request}
use Rattle.run_program.specs.Certificates.{EndsCertificate}
use Rattle.run_program.specs.Checks.{EndsCheck}
use Rattle.run_program.specs.Criteria.{condition_texts}
use Rattle.run_program.specs.Draws.{EndsDraw, EndsDrawHtml, EndsDrawText, EndsLive}
use Rattle.run_program.specs.Explores.{EndsExplore}
use Rattle.run_program.specs.LiveSizes.{session_sizes}
use Rattle.run_program.specs.Runs.{Ends}
use Rattle.run_program.specs.Savings.{EndsSavings, options_of}
use Rattle.run_program.specs.Seen.{Seen, seen}
use Rattle.run_program.specs.Threads.{EndsThreads}
use Rattle.run_program.specs.declared.criteria.Criteria.{Criteria}
use Rattle.run_program.specs.declared.printed.Printed.TheVariants.{Answers, History, Report}

-- how a replay ends that prints the answers
abbrev pub EndsReplay : Seen → Seen → ℕ → Type 0
EndsReplay before after status = Ends HasReplayed HasStopped before after status

-- how a replay ends that prints the recorded history
abbrev pub EndsRecorded : Seen → Seen → ℕ → Type 0
EndsRecorded before after status = Ends HasReplayedRecorded HasStoppedRecorded before after status

-- how a replay ends that prints each line of the plan before its answer
abbrev pub EndsEcho : Seen → Seen → ℕ → Type 0
EndsEcho before after status = Ends HasEchoed HasStoppedEcho before after status

-- how an exploration ends whose criteria have this text of expected outcomes and these texts of conditions
abbrev pub EndsExploreBy : ExploreArgs → ConditionTexts → Option (List ℕ) → Seen → Seen → ℕ → Type 0
EndsExploreBy args conditions expected before after status =
    (criteria : Criteria) × (option_copied criteria.expected ≡ expected) × (condition_texts criteria ≡ conditions) × EndsExplore args criteria before after status

-- these devices, of which some bytes of the input were inspected and not read. They come before what the input has left
abbrev pub with_inspected : List ℕ → Seen → Seen
with_inspected bytes devices =
    seen (prepend_known bytes devices.left) devices.written devices.told devices.input_failed devices.output_failed devices.errors_failed

-- how a judgement ends. It may have inspected bytes of the input that it didn't read
abbrev pub EndsJudgement : ℕ → Seen → Seen → ℕ → Type 0
EndsJudgement most before after status = (inspected : List ℕ) × EndsCheck most before (with_inspected inspected after) status

-- how `check` ends: a certificate is printed if one is asked for, and otherwise a judgement
abbrev pub EndsCheckBy : Bool → CheckArgs → Seen → Seen → ℕ → Type 0
EndsCheckBy true args before after status = EndsCertificate args before after status
EndsCheckBy false args before after status = EndsJudgement args.configurations before after status

-- how the run with these arguments, conditions and expected outcomes ends
abbrev pub EndsAsked : Args → ConditionTexts → Option (List ℕ) → Seen → Seen → ℕ → Type 0
EndsAsked (Replay path) conditions expected before after status = EndsReplay before after status
EndsAsked (ReplayHistory path) conditions expected before after status = EndsRecorded before after status
EndsAsked (ReplayEcho path) conditions expected before after status = EndsEcho before after status
EndsAsked (Threads path args) conditions expected before after status = EndsThreads Answers args before after status
EndsAsked (ThreadsPaced path paced) conditions expected before after status = EndsThreads Answers paced.args before after status
EndsAsked (ThreadsHistory path paced) conditions expected before after status = EndsThreads History paced.args before after status
EndsAsked (ThreadsReport path paced) conditions expected before after status = EndsThreads Report paced.args before after status
EndsAsked (Draw path args) conditions expected before after status = EndsDraw path.now args before after status
EndsAsked (DrawText path args) conditions expected before after status = EndsDrawText args before after status
EndsAsked (DrawHtml path args) conditions expected before after status = EndsDrawHtml path.now args before after status
EndsAsked (Live args) conditions expected before after status = EndsLive (session_sizes args) before after status
EndsAsked (Explore path args) conditions expected before after status = EndsExploreBy args conditions expected before after status
EndsAsked (Check path args) conditions expected before after status = EndsCheckBy (args.is_ordered || args.is_witnessed) args before after status
EndsAsked (Savings path args) conditions expected before after status = EndsSavings (options_of args) before after status

-- how the run of a request ends, if the outcomes that are expected are those of this text
abbrev pub EndsAs : Request → Option (List ℕ) → Seen → Seen → ℕ → Type 0
EndsAs request expected before after status = EndsAsked request.args (conditions_of request.conditions) expected before after status
