-- The command line as `clap` reads it, and how the program stops if the command line asks for no run.
use Rattle.std.specs.Prelude.{◌≡◌, ◌⊎◌, ◌&&◌, ◌||◌, ◌==◌, ℕ, Bool, true, false, List, [], ◌∷◌, Option, Some, None, codes, if◌then◌else◌, is_none, is_some, length, nat_eq, nat_le, not, option_and_then, option_map}
use Rattle.std.specs.Cow.{cow_str_bytes}
use Rattle.std.specs.List.{after_first, before_first}
use Rattle.std.specs.Option.{unwrap_or}
use Rattle.std.specs.Str.{bytes_eq}
use Rattle.std.specs.Str.Parse.{digits_value, without_leading_plus}
use Rattle.clap.specs.ValueTests.{is_unsigned_in}
use Rattle.clap.specs.Words.{App, IsAmong, Kinds, Row, Rule, Text, all_of, fault_of, first_of, new_app, new_rule, one_of, subcommand_of, takes, with_rule, with_subcommand}
use Rattle.clap.specs.declared.builder.action.ArgAction.TheVariants.{Append, SetTrue}
use Rattle.clap.specs.declared.builder.value_parser.ValueParser.TheVariants.{Unsigned}
use Rattle.clap.specs.declared.error.kind.ErrorKind.{ErrorKind}
use Rattle.clap.specs.declared.error.kind.ErrorKind.TheVariants.{DisplayHelp, DisplayVersion, OutOfMemory, ValueValidation}
use Rattle.model_jobs.specs.Texts.{ended}
use Rattle.model_otherwise.specs.Timed.{is_plain}
use Rattle.model_otherwise.specs.declared.timing.Making.{Making}
use Rattle.model_otherwise.specs.declared.timing.Making.TheVariants.{Split, Stale, Whole}
use Rattle.model_otherwise.specs.declared.timing.Timing.{Timing}
use Rattle.run_command_line.specs.Meshes.{pairs_of}
use Rattle.run_command_line.specs.Conditions.{ConditionTexts, conditions_of, has_condition, no_condition}
use Rattle.run_command_line.specs.declared.check_args.CheckArgs.{CheckArgs}
use Rattle.run_command_line.specs.declared.command_line.Args.{Args}
use Rattle.run_command_line.specs.declared.command_line.Args.TheVariants.{Check, Draw, DrawHtml, DrawText, Explore, Live, Replay, ReplayEcho, ReplayHistory, Savings, Threads, ThreadsHistory, ThreadsPaced, ThreadsReport}
use Rattle.run_command_line.specs.declared.requested.Request.{Request}
use Rattle.run_command_line.specs.declared.stop.Stop.{Stop}
use Rattle.run_command_line.specs.declared.draw_args.DrawArgs.{DrawArgs}
use Rattle.run_command_line.specs.declared.explore_args.ExploreArgs.{ExploreArgs}
use Rattle.run_command_line.specs.declared.explore_args.ShownArgs.{ShownArgs}
use Rattle.run_command_line.specs.declared.explore_args.StepsArgs.{StepsArgs}
use Rattle.run_command_line.specs.declared.explore_args.Told.{Told}
use Rattle.run_command_line.specs.declared.explore_args.Told.TheVariants.{All, Answer, Outcome, Steps, Verdict}
use Rattle.explore_interleavings.specs.declared.pair.MeshPair.{MeshPair}
use Rattle.run_command_line.specs.declared.live_args.LiveArgs.{LiveArgs}
use Rattle.run_command_line.specs.declared.savings_args.FiguresForm.{FiguresForm}
use Rattle.run_command_line.specs.declared.savings_args.FiguresForm.TheVariants.{Csv, Plot, Table}
use Rattle.run_command_line.specs.declared.savings_args.RoundsAsked.{RoundsAsked}
use Rattle.run_command_line.specs.declared.savings_args.RoundsAsked.TheVariants.{Every, Share}
use Rattle.run_command_line.specs.declared.savings_args.SavingsArgs.{SavingsArgs}
use Rattle.run_command_line.specs.declared.threads_args.PacedArgs.{PacedArgs}
use Rattle.run_command_line.specs.declared.threads_args.ThreadsArgs.{ThreadsArgs}

-- ---- what the program takes

-- the required argument for the file
abbrev pub file_rule : Rule
file_rule = record (new_rule (codes "FILE")) { required = true }

-- an option of this name with a number from `least` to `most`. Help shows one value for the option
abbrev pub number_rule : Text → ℕ → ℕ → Rule
number_rule name least most = record (new_rule name) { long = Some name; parser = Some (Unsigned least most); value_names = 1 }

-- a required option of this name with a number from `least` to `most`
abbrev pub required_number : Text → ℕ → ℕ → Rule
required_number name least most = record (number_rule name least most) { required = true }

-- an option of this name with a number from `least` to `most`. If the option isn't given, the number is the default
abbrev pub number_or : Text → ℕ → ℕ → Text → Rule
number_or name least most default = record (number_rule name least most) { defaults = default ∷ [] }

-- a flag of this name
abbrev pub flag_rule : Text → Rule
flag_rule name = record (new_rule name) { long = Some name; action = Some SetTrue }

-- an option of this name with a text. Help shows one value for the option
abbrev pub text_rule : Text → Rule
text_rule name = record (new_rule name) { long = Some name; value_names = 1 }

-- an option of this name that may be given several times, each time with a text
abbrev pub texts_rule : Text → Rule
texts_rule name = record (text_rule name) { action = Some Append }

-- the option `--mesh` of `explore`: it is required, and may be given several times, each time with a text. Help shows
-- one value for the option
abbrev pub mesh_rule : Rule
mesh_rule = record (new_rule (codes "mesh")) { long = Some (codes "mesh"); action = Some Append; required = true; value_names = 1 }

-- `replay FILE [--history | --echo] [--explain]`
abbrev pub replay_app : App
replay_app = with_rule (with_rule (with_rule (with_rule (new_app (codes "replay")) file_rule) (flag_rule (codes "history")))
    (flag_rule (codes "echo"))) (flag_rule (codes "explain"))

-- `threads FILE --probe T --rounds R --workers N --seed S [--meshers M] [--pace N] [--history | --report] [--explain]`
abbrev pub threads_app : App
threads_app = with_rule (with_rule (with_rule (with_rule (with_rule (with_rule (with_rule (with_rule (with_rule (with_rule (new_app (codes "threads")) file_rule)
    (required_number (codes "probe") 0 64)) (required_number (codes "rounds") 0 1000)) (required_number (codes "workers") 1 16))
    (required_number (codes "seed") 0 18446744073709551615)) (number_or (codes "meshers") 1 10 (codes "1")))
    (number_rule (codes "pace") 1 65536)) (flag_rule (codes "history"))) (flag_rule (codes "report"))) (flag_rule (codes "explain"))

-- `draw FILE [--from N] [--to N] [--columns N | --text | --html]`, or
-- `draw FILE --mesh SRC:DST [--mesh ..] [--steps LIST] [--any N [--store split|stale] [--load stale] [--free split]]
-- [--states N] [--columns N]`
abbrev pub draw_app : App
draw_app = with_rule (with_rule (with_rule (with_rule (with_rule (with_rule (with_rule (with_rule (with_rule (with_rule (with_rule (with_rule (with_rule
    (new_app (codes "draw")) file_rule) (number_or (codes "from") 1 1048576 (codes "1"))) (number_or (codes "to") 1 1048576 (codes "1048576")))
    (number_rule (codes "columns") 0 64)) (flag_rule (codes "text"))) (flag_rule (codes "html"))) (texts_rule (codes "mesh")))
    (text_rule (codes "steps"))) (number_rule (codes "any") 0 1000)) (text_rule (codes "store"))) (text_rule (codes "load"))) (text_rule (codes "free")))
    (number_or (codes "states") 1 10000000 (codes "100000"))

-- `live [--pages P] [--history H] [--workers N]`
abbrev pub live_app : App
live_app = with_rule (with_rule (with_rule (new_app (codes "live")) (number_or (codes "pages") 1 4096 (codes "4096")))
    (number_or (codes "history") 0 65536 (codes "65536"))) (number_or (codes "workers") 1 64 (codes "64"))

-- `explore FILE --mesh SRC:DST [--mesh ..] [--cancel AFTER] [--states N] [--witness K | --show LINE:ANSWER:PHASE |
-- [--expect FILE] [--never COND ..] [--always COND ..] [--exists COND ..] |
-- [--steps LIST] [--any N [--store split|stale] [--load stale] [--free split]]] [--allow-no-mesh] [--progress]`
abbrev pub explore_app : App
explore_app = with_rule (with_rule (with_rule (with_rule (with_rule (with_rule (with_rule (with_rule (with_rule (with_rule (with_rule (with_rule (with_rule (with_rule (with_rule (with_rule (with_rule (new_app (codes "explore")) file_rule) mesh_rule)
    (number_rule (codes "cancel") 0 1000)) (number_or (codes "states") 1 10000000 (codes "100000"))) (number_rule (codes "witness") 0 4294967295))
    (text_rule (codes "show"))) (text_rule (codes "expect"))) (texts_rule (codes "never"))) (texts_rule (codes "always"))) (texts_rule (codes "exists"))) (text_rule (codes "steps"))) (number_rule (codes "any") 0 1000)) (text_rule (codes "store"))) (text_rule (codes "load"))) (text_rule (codes "free"))) (flag_rule (codes "allow-no-mesh"))) (flag_rule (codes "progress"))

-- `check FILE [--configurations N] [--order] [--witness]`
abbrev pub check_app : App
check_app = with_rule (with_rule (with_rule (with_rule (new_app (codes "check")) file_rule) (number_or (codes "configurations") 1 4294967295 (codes "100000")))
    (flag_rule (codes "order"))) (flag_rule (codes "witness"))

-- `savings FILE [--every F] [--share K] [--members M] [--probe T] [--seed S] [--first-fit] [--from CALL] [--to CALL]
-- [--svg] [--csv]`
abbrev pub savings_app : App
savings_app = with_rule (with_rule (with_rule (with_rule (with_rule (with_rule (with_rule (with_rule (with_rule (with_rule (with_rule
    (new_app (codes "savings")) file_rule) (number_rule (codes "every") 1 4294967295)) (number_rule (codes "share") 1 1000))
    (number_or (codes "members") 1 8 (codes "8"))) (number_or (codes "probe") 0 64 (codes "64")))
    (number_rule (codes "seed") 0 18446744073709551615)) (flag_rule (codes "first-fit"))) (number_or (codes "from") 1 4294967295 (codes "1")))
    (number_or (codes "to") 1 4294967295 (codes "4294967295"))) (flag_rule (codes "svg"))) (flag_rule (codes "csv"))

-- the program without its subcommands. It has a version, requires a subcommand, and shows its help if there are no
-- words. The version's text isn't part of the model of `clap`
abbrev pub bare_app : App
bare_app = let app = new_app (codes "meshrun") in
    record app { top = record app.top { has_version = true; subcommand_required = true; arg_required_else_help = true } }

-- the subcommands that run a heap: `meshrun replay FILE ..`, `meshrun threads FILE ..`, `meshrun draw FILE ..` and
-- `meshrun live ..`
abbrev pub runs_app : App
runs_app = with_subcommand (with_subcommand (with_subcommand (with_subcommand bare_app replay_app.top) threads_app.top) draw_app.top) live_app.top

-- with those that judge: `meshrun explore FILE ..` and `meshrun check FILE ..`
abbrev pub judging_app : App
judging_app = with_subcommand (with_subcommand runs_app explore_app.top) check_app.top

-- with the one that compares heaps: `meshrun savings FILE ..`
abbrev pub meshrun_app : App
meshrun_app = with_subcommand judging_app savings_app.top

-- ---- what words ask for

-- the numbers that `threads` is asked for. `probe` is the most rounds of tries in a search, `rounds` the number of
-- times that each mesher searches and meshes. `workers` threads make a search, `seed` gives the words of the shuffles,
-- and `meshers` threads mesh. If `pace` is given, a worker waits behind each that many of its calls until a mesher has
-- made a call
pub record Numbers : Type 0 where
  pub probe : ℕ
  pub rounds : ℕ
  pub workers : ℕ
  pub seed : ℕ
  pub meshers : ℕ
  pub pace : Option ℕ

-- the part of a plan that `draw` is asked for: the lines `from` to `to`, in this number of columns. 0 columns are as
-- many as fit
pub record Shown : Type 0 where
  pub from : ℕ
  pub to : ℕ
  pub columns : ℕ

-- the sizes of a session: its pages, the greatest number of entries in its journal, and its workers
pub record SessionSizes : Type 0 where
  pub pages : ℕ
  pub history : ℕ
  pub workers : ℕ

-- an answer of an exploration: the line of its command in the file, its text, and the text of a phase
pub record ShownAnswer : Type 0 where
  pub line : ℕ
  pub answer : Text
  pub phase : Text

-- the criteria of a verdict: the path of the file that lists the expected outcomes, if one is given, and the conditions
-- on the outcomes
pub record Judged : Type 0 where
  pub expect : Option Text
  pub conditions : ConditionTexts

-- the list of steps by which meshes are made, `None` for the steps of the heap's own meshes, how many commands a client
-- gives at most, if a client gives them, and how loads, stores and frees are made. Then the columns of a picture of a
-- shortest plan, 0 for as many as fit, or `None` if a report is printed
pub record Stepped : Type 0 where
  pub list : Option Text
  pub commands : Option ℕ
  pub timing : Timing
  pub picture : Option ℕ

-- what is printed of an exploration: all outcomes, one outcome or one answer as a job file, a verdict, or a report on
-- meshes that are made by a list of steps, or a picture of a shortest plan to what goes wrong with them
pub data ToldOf : Type 0 where
  tells_all : ToldOf
  tells_outcome : ℕ → ToldOf
  tells_answer : ShownAnswer → ToldOf
  tells_verdict : Judged → ToldOf
  tells_steps : Stepped → ToldOf

-- what `explore` is asked for, or `draw` with meshes: the meshes, after how many steps each mesh is cancelled, if at
-- all, and the greatest number of states. Then what is printed, whether a verdict may be positive if a mesh never
-- begins, and whether the number of states found is printed as well
pub record Explored : Type 0 where
  pub meshes : List MeshPair
  pub cancel : Option ℕ
  pub states : ℕ
  pub told : ToldOf
  pub allows_no_mesh : Bool
  pub is_watched : Bool

-- how `check` judges a recorded history: the most configurations that an object may have if calls overlap, and whether
-- an order that explains the calls, or a witness of a wrong answer, is printed instead of the verdict
pub record Checked : Type 0 where
  pub configurations : ℕ
  pub is_ordered : Bool
  pub is_witnessed : Bool

-- when a round of meshing follows the free of a small object: after this many frees since the last round, or after at
-- least 64 frees, if their number, times this one, is at least the number of live small objects
pub data Rounds : Type 0 where
  every : ℕ → Rounds
  share : ℕ → Rounds

-- the form in which figures are printed
pub data Form : Type 0 where
  table : Form
  plot : Form
  csv : Form

-- how `savings` follows a recorded history on two heaps. `rounds` says when rounds of meshing are made, `members` is
-- the most members that a mesh may give a group, and `probe` the most rounds of tries in a search. `seed` gives the
-- words of the objects; without a seed each word is 0. The figures are of the calls `from` to `to`
pub record Compared : Type 0 where
  pub rounds : Rounds
  pub members : ℕ
  pub probe : ℕ
  pub seed : Option ℕ
  pub from : ℕ
  pub to : ℕ
  pub form : Form

-- what the program is asked for. `check_of` and `savings_of` have the path of a recorded history, the others but
-- `live_of` the path of a job file:
-- - `replay_of`: a replay; `replay_history_of`: the recorded history of the replay; `replay_echo_of`: the plan's lines
--   with the commands that are attempted at them and their answers
-- - `threads_of`: a run of the scripts by threads; `threads_history_of`: the recorded history of the run;
--   `threads_report_of`: the run, with a report on its threads and its heap
-- - `draw_of`: a picture of part of the plan; `draw_text_of`: the heap after each line of this part, as text;
--   `draw_html_of`: a page that steps through these heaps
-- - `explore_of`: an exploration of the commands that the plan leaves, or a picture of a shortest plan that it finds
-- - `live_of`: a session of these sizes
-- - `check_of`: a judgement of the history; `savings_of`: what meshing saves for the history
pub data Asked : Type 0 where
  replay_of : Text → Asked
  replay_history_of : Text → Asked
  replay_echo_of : Text → Asked
  threads_of : Text → Numbers → Asked
  threads_history_of : Text → Numbers → Asked
  threads_report_of : Text → Numbers → Asked
  draw_of : Text → Shown → Asked
  draw_text_of : Text → Shown → Asked
  draw_html_of : Text → Shown → Asked
  explore_of : Text → Explored → Asked
  live_of : SessionSizes → Asked
  check_of : Text → Checked → Asked
  savings_of : Text → Compared → Asked

-- the number that this text spells, if `clap` accepts the text as a number in the range
abbrev pub number_of : ℕ → ℕ → Text → Option ℕ
number_of least most text = if is_unsigned_in least most text then Some (digits_value 10 (without_leading_plus text)) else None

-- the number that the matches have for the option of this name, if it is in the range
abbrev pub number_in : Text → ℕ → ℕ → List Row → Option ℕ
number_in name least most rows = option_and_then (number_of least most) (one_of name rows)

-- whether the flag of this name is given, from its value in the matches: `true` if given
abbrev pub flag_in : Text → List Row → Option Bool
flag_in name rows = option_map (λ value. bytes_eq value (codes "true")) (first_of name rows)

-- whether the flag `--history` is given
abbrev pub is_recorded_in : List Row → Option Bool
is_recorded_in rows = flag_in (codes "history") rows

-- whether the flag `--echo` is given
abbrev pub is_echoed_in : List Row → Option Bool
is_echoed_in rows = flag_in (codes "echo") rows

-- whether the flag `--report` is given
abbrev pub is_reported_in : List Row → Option Bool
is_reported_in rows = flag_in (codes "report") rows

-- what `replay` asks for: with `--history` the recorded history, with `--echo` the plan's lines before their answers,
-- and otherwise the answers. The two flags exclude each other
abbrev pub replay_by : Text → Bool → Bool → Option Asked
replay_by file true true = None
replay_by file true false = Some (replay_history_of file)
replay_by file false true = Some (replay_echo_of file)
replay_by file false false = Some (replay_of file)

-- what `replay` asks for according to its matches
abbrev pub replay_in : Text → List Row → Option Asked
replay_in file rows = option_and_then (λ recorded. option_and_then (replay_by file recorded) (is_echoed_in rows)) (is_recorded_in rows)

-- what `threads` asks for with these numbers: with `--history` the recorded history, with `--report` the answers and a
-- report behind them, and otherwise the answers. The two flags exclude each other
abbrev pub threads_by : Text → Numbers → Bool → Bool → Option Asked
threads_by file numbers true true = None
threads_by file numbers true false = Some (threads_history_of file numbers)
threads_by file numbers false true = Some (threads_report_of file numbers)
threads_by file numbers false false = Some (threads_of file numbers)

-- the number in the matches for an option, if the option is given. The outer `None` is a number that isn't in the range
abbrev pub given_in : Text → ℕ → ℕ → List Row → Option (Option ℕ)
given_in name least most rows = if is_some (first_of name rows) then option_map Some (number_in name least most rows) else Some None

-- the numbers of `threads` in the matches
abbrev pub numbers_in : List Row → Option Numbers
numbers_in rows =
    option_and_then (λ probe. option_and_then (λ rounds. option_and_then (λ workers. option_and_then (λ seed. option_and_then (λ meshers.
    option_map (λ pace. record { probe = probe; rounds = rounds; workers = workers; seed = seed; meshers = meshers; pace = pace })
    (given_in (codes "pace") 1 65536 rows)) (number_in (codes "meshers") 1 10 rows)) (number_in (codes "seed") 0 18446744073709551615 rows)) (number_in (codes "workers") 1 16 rows))
    (number_in (codes "rounds") 0 1000 rows)) (number_in (codes "probe") 0 64 rows)

-- what `threads` asks for according to its matches
abbrev pub threads_in : Text → List Row → Option Asked
threads_in file rows =
    option_and_then (λ numbers. option_and_then (λ recorded. option_and_then (threads_by file numbers recorded) (is_reported_in rows)) (is_recorded_in rows))
    (numbers_in rows)

-- the part of a plan, if its first line isn't behind its last
abbrev pub in_plan_order : Shown → Option Shown
in_plan_order shown = if nat_le shown.from shown.to then Some shown else None

-- the columns in the matches of `draw`, which are 0 if none are given
abbrev pub columns_in : List Row → Option ℕ
columns_in rows = option_map (λ given. unwrap_or given 0) (given_in (codes "columns") 0 64 rows)

-- the part of a plan in the matches of `draw`
abbrev pub shown_in : List Row → Option Shown
shown_in rows =
    option_and_then (λ from. option_and_then (λ to. option_and_then (λ columns. in_plan_order (record { from = from; to = to; columns = columns }))
    (columns_in rows)) (number_in (codes "to") 1 1048576 rows)) (number_in (codes "from") 1 1048576 rows)

-- what `draw` asks for without a mesh, by whether `--text`, `--html` and `--columns` are given. At most one of them may
-- be given
abbrev pub draw_by : Text → Shown → Bool → Bool → Bool → Option Asked
draw_by file shown false false columns = Some (draw_of file shown)
draw_by file shown true false false = Some (draw_text_of file shown)
draw_by file shown true false true = None
draw_by file shown false true false = Some (draw_html_of file shown)
draw_by file shown false true true = None
draw_by file shown true true columns = None

-- what `draw` asks for without a mesh, according to its matches
abbrev pub drawn_plan_in : Text → List Row → Option Asked
drawn_plan_in file rows =
    option_and_then (λ shown. option_and_then (λ is_text. option_and_then (λ is_page. draw_by file shown is_text is_page (is_some (first_of (codes "columns") rows)))
    (flag_in (codes "html") rows)) (flag_in (codes "text") rows)) (shown_in rows)

-- the group that this text names. Its number is spelt as in any option, and is at most 65535
abbrev pub group_of : Text → Option ℕ
group_of text = number_of 0 65535 text

-- the pair of these two groups, if both exist
abbrev pub pair_from : Option ℕ → Option ℕ → Option MeshPair
pair_from source destination = option_and_then (λ s. option_map (λ d. record { source = s; destination = d }) destination) source

-- whether the byte is a colon
abbrev pub is_colon : ℕ → Bool
is_colon b = b == 58

-- the pair of groups that a text names: the group before its first colon, and the group after it. No number contains a
-- colon or is empty, so the text has exactly one colon
abbrev pub pair_of : Text → Option MeshPair
pair_of text = pair_from (group_of (before_first is_colon text)) (group_of (after_first is_colon text))

-- whether a text doesn't name a pair of groups
abbrev pub is_no_pair : Text → Bool
is_no_pair text = is_none (pair_of text)

-- the pairs that the texts name, if each names a pair
abbrev pub pairs_in : List Text → Option (List MeshPair)
pairs_in [] = Some []
pairs_in (text ∷ texts) = option_and_then (λ pair. option_map (λ pairs. pair ∷ pairs) (pairs_in texts)) (pair_of text)

-- the meshes in the matches: 1 to 10
abbrev pub meshes_in : List Row → Option (List MeshPair)
meshes_in rows =
    option_and_then (λ texts. if nat_le 1 (length texts) && nat_le (length texts) 10 then pairs_in texts else None) (all_of (codes "mesh") rows)

-- the answer and the phase in a text, on both sides of its first colon. The phase may not be empty
abbrev pub shown_behind : ℕ → Text → Option ShownAnswer
shown_behind line text =
    if nat_eq (length (after_first is_colon text)) 0 then None
    else Some (record { line = line; answer = before_first is_colon text; phase = after_first is_colon text })

-- the answer that a text names: its line, its text and its phase, separated by colons. The line is at least 1
abbrev pub shown_of_text : Text → Option ShownAnswer
shown_of_text text = option_and_then (λ line. shown_behind line (after_first is_colon text)) (number_of 1 4294967295 (before_first is_colon text))

-- the value of an option's text, if the option is given. The outer `None` is a text without a value
abbrev pub of_given : {A : Type 0} → (Text → Option A) → Option Text → Option (Option A)
of_given read None = Some None
of_given read (Some text) = option_map Some (read text)

-- the answer in the matches for `--show`, if the option is given
abbrev pub shown_given_in : List Row → Option (Option ShownAnswer)
shown_given_in rows = of_given shown_of_text (first_of (codes "show") rows)

-- the texts of an option that may be given at most ten times: empty if the option isn't given
abbrev pub few_texts : Option (List Text) → Option (List Text)
few_texts None = Some []
few_texts (Some texts) = if nat_le (length texts) 10 then Some texts else None

-- the texts in the matches for an option: at most ten
abbrev pub texts_in : Text → List Row → Option (List Text)
texts_in name rows = few_texts (all_of name rows)

-- the conditions in the matches
abbrev pub conditions_in : List Row → Option ConditionTexts
conditions_in rows =
    option_and_then (λ never. option_and_then (λ always. option_map (λ exists. record { never = never; always = always; exists = exists })
    (texts_in (codes "exists") rows)) (texts_in (codes "always") rows)) (texts_in (codes "never") rows)

-- whether a verdict is asked for: a file of expected outcomes or a condition is given
abbrev pub asks_verdict : Option Text → ConditionTexts → Bool
asks_verdict expect conditions = is_some expect || has_condition conditions

-- what is printed: an outcome, an answer or a verdict, if at most one of them is asked for. If none is, all outcomes
-- are printed
abbrev pub told_by : Option ℕ → Option ShownAnswer → Bool → Judged → Option ToldOf
told_by None None true judged = Some (tells_verdict judged)
told_by None None false judged = Some tells_all
told_by (Some number) None false judged = Some (tells_outcome number)
told_by None (Some shown) false judged = Some (tells_answer shown)
told_by (Some number) None true judged = None
told_by None (Some shown) true judged = None
told_by (Some number) (Some shown) is_verdict judged = None

-- what is printed, with this file of expected outcomes, if any, and these conditions
abbrev pub told_where : Option Text → ConditionTexts → Option ℕ → Option ShownAnswer → Option ToldOf
told_where expect conditions witness shown = told_by witness shown (asks_verdict expect conditions) (record { expect = expect; conditions = conditions })

-- what is printed of outcomes according to the matches, with these conditions
abbrev pub listing_told_in : ConditionTexts → List Row → Option ToldOf
listing_told_in conditions rows =
    option_and_then (λ witness. option_and_then (told_where (first_of (codes "expect") rows) conditions witness) (shown_given_in rows))
    (given_in (codes "witness") 0 4294967295 rows)

-- the list of steps that a text names. `right` names the steps of the heap's own meshes
abbrev pub other_list : Option Text → Option Text
other_list None = None
other_list (Some text) = if bytes_eq text (codes "right") then None else Some text

-- the report on a list of steps, if all outcomes would be printed otherwise
abbrev pub steps_told : Stepped → ToldOf → Option ToldOf
steps_told stepped tells_all = Some (tells_steps stepped)
steps_told stepped (tells_outcome number) = None
steps_told stepped (tells_answer shown) = None
steps_told stepped (tells_verdict judged) = None
steps_told stepped (tells_steps other) = None

-- how stores are made, by the text of `--store`, if it is given. `None` if it is another text
abbrev pub store_making : Option Text → Option Making
store_making None = Some Whole
store_making (Some text) =
    if bytes_eq text (codes "split") then Some Split else (if bytes_eq text (codes "stale") then Some Stale else None)

-- how loads are made, by the text of `--load`, if it is given. `None` if it is another text
abbrev pub load_making : Option Text → Option Making
load_making None = Some Whole
load_making (Some text) = if bytes_eq text (codes "stale") then Some Stale else None

-- how frees are made, by the text of `--free`, if it is given. `None` if it is another text
abbrev pub free_making : Option Text → Option Making
free_making None = Some Whole
free_making (Some text) = if bytes_eq text (codes "split") then Some Split else None

-- how loads, stores and frees are made according to the matches
abbrev pub timing_in : List Row → Option Timing
timing_in rows =
    option_and_then (λ stores. option_and_then (λ loads. option_map (λ frees. record { loads = loads; stores = stores; frees = frees })
    (free_making (first_of (codes "free") rows))) (load_making (first_of (codes "load") rows))) (store_making (first_of (codes "store") rows))

-- what is printed, with this list of steps, if any, this number of commands of a client, if any, and accesses that are
-- made so. Only a client makes accesses in two moves
abbrev pub told_with : Option Text → Option ℕ → Timing → ToldOf → Option ToldOf
told_with None None timing told = if is_plain timing then Some told else None
told_with (Some list) None timing told =
    if is_plain timing then steps_told (record { list = Some list; commands = None; timing = timing; picture = None }) told else None
told_with list (Some commands) timing told = steps_told (record { list = list; commands = Some commands; timing = timing; picture = None }) told

-- what is printed according to the matches, with these conditions
abbrev pub told_in : ConditionTexts → List Row → Option ToldOf
told_in conditions rows =
    option_and_then (λ told. option_and_then (λ commands. option_and_then (λ timing.
    told_with (other_list (first_of (codes "steps") rows)) commands timing told)
    (timing_in rows)) (given_in (codes "any") 0 1000 rows)) (listing_told_in conditions rows)

-- whether a report on meshes that are made by a list of steps is printed
abbrev pub is_of_steps : ToldOf → Bool
is_of_steps tells_all = false
is_of_steps (tells_outcome number) = false
is_of_steps (tells_answer shown) = false
is_of_steps (tells_verdict judged) = false
is_of_steps (tells_steps stepped) = true

-- what is asked for, if no report on a list of steps is of meshes that are cancelled
abbrev pub in_agreement : Explored → Option Explored
in_agreement explored = if is_some explored.cancel && is_of_steps explored.told then None else Some explored

-- what `explore` asks for according to its matches, with these conditions
abbrev pub explored_in : ConditionTexts → List Row → Option Explored
explored_in conditions rows =
    option_and_then (λ meshes. option_and_then (λ cancel. option_and_then (λ states. option_and_then (λ told.
    option_and_then (λ allowed. option_and_then (λ is_watched.
    in_agreement (record { meshes = meshes; cancel = cancel; states = states; told = told; allows_no_mesh = allowed; is_watched = is_watched }))
    (flag_in (codes "progress") rows)) (flag_in (codes "allow-no-mesh") rows)) (told_in conditions rows)) (number_in (codes "states") 1 10000000 rows)) (given_in (codes "cancel") 0 1000 rows)) (meshes_in rows)

-- whether the part of a plan is the whole plan: from the first line to the last that may be asked for
abbrev pub is_whole_plan : Shown → Bool
is_whole_plan shown = nat_eq shown.from 1 && nat_eq shown.to 1048576

-- the columns of a picture of a shortest plan, by whether `--text` and `--html` are given. The picture is of the whole
-- plan, and neither a text nor a page of the plan is printed
abbrev pub picture_by : Shown → Bool → Bool → Option ℕ
picture_by shown is_text is_page = if is_text || (is_page || not (is_whole_plan shown)) then None else Some shown.columns

-- the columns of a picture of a shortest plan according to the matches of `draw`
abbrev pub picture_in : List Row → Option ℕ
picture_in rows =
    option_and_then (λ shown. option_and_then (λ is_text. option_and_then (picture_by shown is_text) (flag_in (codes "html") rows)) (flag_in (codes "text") rows))
    (shown_in rows)

-- whether accesses are made in two moves, and no client makes them
abbrev pub lacks_client : Option ℕ → Timing → Bool
lacks_client commands timing = is_none commands && not (is_plain timing)

-- the list of steps, if only a client makes accesses in two moves
abbrev pub by_client : Stepped → Option Stepped
by_client stepped = if lacks_client stepped.commands stepped.timing then None else Some stepped

-- the list of steps, the client and the picture according to the matches of `draw`
abbrev pub drawn_steps_in : List Row → Option Stepped
drawn_steps_in rows =
    option_and_then (λ columns. option_and_then (λ commands. option_and_then (λ timing.
    by_client (record { list = other_list (first_of (codes "steps") rows); commands = commands; timing = timing; picture = Some columns }))
    (timing_in rows)) (given_in (codes "any") 0 1000 rows)) (picture_in rows)

-- the exploration whose shortest plan `draw` draws, according to its matches. Some mesh may begin in no interleaving
abbrev pub drawn_exploration_in : List Row → Option Explored
drawn_exploration_in rows =
    option_and_then (λ meshes. option_and_then (λ states. option_map
    (λ stepped. record { meshes = meshes; cancel = None; states = states; told = tells_steps stepped; allows_no_mesh = true; is_watched = false })
    (drawn_steps_in rows)) (number_in (codes "states") 1 10000000 rows)) (meshes_in rows)

-- whether an option of `draw` is given that needs a mesh
abbrev pub has_steps_option : List Row → Bool
has_steps_option rows =
    is_some (first_of (codes "steps") rows) || (is_some (first_of (codes "any") rows) || (is_some (first_of (codes "store") rows)
    || (is_some (first_of (codes "load") rows) || is_some (first_of (codes "free") rows))))

-- what `draw` asks for according to its matches: with a mesh the shortest plan of an exploration, and otherwise the
-- plan of the file, without the options that need a mesh
abbrev pub draw_in : Text → List Row → Option Asked
draw_in file rows =
    if is_some (first_of (codes "mesh") rows) then option_map (explore_of file) (drawn_exploration_in rows)
    else (if has_steps_option rows then None else drawn_plan_in file rows)

-- the seed of `savings`: with `--first-fit` none, otherwise the given seed, or 1 if none is given. The outer `None` is
-- a seed that isn't in range or that is given together with `--first-fit`
abbrev pub seed_by : Bool → List Row → Option (Option ℕ)
seed_by first_fit rows =
    if is_some (first_of (codes "seed") rows)
    then (if first_fit then None else option_map Some (number_in (codes "seed") 0 18446744073709551615 rows))
    else Some (if first_fit then None else Some 1)

-- the seed of `savings` according to its matches
abbrev pub seed_in : List Row → Option (Option ℕ)
seed_in rows = option_and_then (λ first_fit. seed_by first_fit rows) (flag_in (codes "first-fit") rows)

-- when rounds are made: as the given option says, or by the share 8 if none is given. Both options exclude each other
abbrev pub rounds_by : Option ℕ → Option ℕ → Option Rounds
rounds_by (Some frees) (Some part) = None
rounds_by (Some frees) None = Some (every frees)
rounds_by None (Some part) = Some (share part)
rounds_by None None = Some (share 8)

-- when rounds are made according to the matches of `savings`
abbrev pub rounds_in : List Row → Option Rounds
rounds_in rows =
    option_and_then (λ frees. option_and_then (λ part. rounds_by frees part) (given_in (codes "share") 1 1000 rows))
    (given_in (codes "every") 1 4294967295 rows)

-- the form that the flags for a plot and for comma-separated values ask for. Both exclude each other
abbrev pub form_by : Bool → Bool → Option Form
form_by true true = None
form_by true false = Some plot
form_by false true = Some csv
form_by false false = Some table

-- the form of the figures according to the matches of `savings`
abbrev pub form_in : List Row → Option Form
form_in rows =
    option_and_then (λ is_plot. option_and_then (λ is_csv. form_by is_plot is_csv) (flag_in (codes "csv") rows)) (flag_in (codes "svg") rows)

-- the arguments of `savings`, if `from` is at most `to`
abbrev pub in_order : Compared → Option Compared
in_order compared = if nat_le compared.from compared.to then Some compared else None

-- what `check` asks for according to its matches
abbrev pub checked_in : List Row → Option Checked
checked_in rows =
    option_and_then (λ configurations. option_and_then (λ is_ordered. option_map
    (λ is_witnessed. record { configurations = configurations; is_ordered = is_ordered; is_witnessed = is_witnessed }) (flag_in (codes "witness") rows))
    (flag_in (codes "order") rows)) (number_in (codes "configurations") 1 4294967295 rows)

-- what `savings` asks for according to its matches
abbrev pub compared_in : List Row → Option Compared
compared_in rows =
    option_and_then (λ rounds. option_and_then (λ members. option_and_then (λ probe. option_and_then (λ seed. option_and_then (λ from. option_and_then (λ to.
    option_and_then (λ form. in_order (record { rounds = rounds; members = members; probe = probe; seed = seed; from = from; to = to; form = form }))
    (form_in rows)) (number_in (codes "to") 1 4294967295 rows)) (number_in (codes "from") 1 4294967295 rows)) (seed_in rows))
    (number_in (codes "probe") 0 64 rows)) (number_in (codes "members") 1 8 rows)) (rounds_in rows)

-- the sizes of a session in the matches of `live`
abbrev pub sizes_in : List Row → Option SessionSizes
sizes_in rows =
    option_and_then (λ pages. option_and_then (λ history. option_map (λ workers. record { pages = pages; history = history; workers = workers })
    (number_in (codes "workers") 1 64 rows)) (number_in (codes "history") 0 65536 rows)) (number_in (codes "pages") 1 4096 rows)

-- what the subcommand of this name asks for, with this file, these matches and these conditions. `live` isn't among
-- these subcommands, because it needs no file
abbrev pub asked_of : ConditionTexts → Text → List Row → Text → Option Asked
asked_of conditions name rows file =
    if bytes_eq name (codes "replay") then replay_in file rows
    else (if bytes_eq name (codes "threads") then threads_in file rows
    else (if bytes_eq name (codes "draw") then draw_in file rows
    else (if bytes_eq name (codes "explore") then option_map (explore_of file) (explored_in conditions rows)
    else (if bytes_eq name (codes "check") then option_map (check_of file) (checked_in rows)
    else (if bytes_eq name (codes "savings") then option_map (savings_of file) (compared_in rows) else None)))))

-- what the subcommand of this name asks for, with these matches and these conditions. All but `live` need a file
abbrev pub asked_with : ConditionTexts → Text → List Row → Option Asked
asked_with conditions name rows =
    if bytes_eq name (codes "live") then option_map live_of (sizes_in rows) else option_and_then (asked_of conditions name rows) (first_of (codes "FILE") rows)

-- what the subcommand of this name asks for, with these matches. Only `explore` may have conditions
abbrev pub asked_by : Text → List Row → Option Asked
asked_by name rows = option_and_then (λ conditions. asked_with conditions name rows) (conditions_in rows)

-- what the subcommand and its matches, if there are any, ask for
abbrev pub asked_in : Option (Text × List Row) → Option Asked
asked_in None = None
asked_in (Some found) = asked_by found.0 found.1

-- what the words of a command line ask for
unfoldable pub asked : List Text → Option Asked
asked words = asked_in (subcommand_of meshrun_app words)

-- the conditions in what was found of a subcommand. There are none without a subcommand, and none are taken if an
-- option is given more than ten times
abbrev pub conditions_found : Option (Text × List Row) → ConditionTexts
conditions_found None = no_condition
conditions_found (Some found) = unwrap_or (conditions_in found.1) no_condition

-- the conditions that the words of a command line have
unfoldable pub conditions_asked : List Text → ConditionTexts
conditions_asked words = conditions_found (subcommand_of meshrun_app words)

-- whether a subcommand explains faults, by its matches: if it has the flag `--explain`, this flag is given
abbrev pub explains_in : List Row → Bool
explains_in rows = unwrap_or (flag_in (codes "explain") rows) true

-- whether what was found of a subcommand explains faults
abbrev pub explains_found : Option (Text × List Row) → Bool
explains_found None = false
explains_found (Some found) = explains_in found.1

-- whether the words of a command line ask for explanations of faults
unfoldable pub explains_asked : List Text → Bool
explains_asked words = explains_found (subcommand_of meshrun_app words)

-- whether the words are a command line of the program
unfoldable pub is_taken : List Text → Bool
is_taken words = takes meshrun_app words

-- the faults that the words may have, and the requests for help or the version
unfoldable pub kinds_of : List Text → Kinds
kinds_of words = fault_of meshrun_app words

-- the numbers of parsed arguments for `threads`
abbrev pub numbers_of : PacedArgs → Numbers
numbers_of paced =
    let args = paced.args in
    record { probe = args.probe; rounds = args.rounds; workers = args.workers; seed = args.seed; meshers = args.meshers; pace = paced.pace }

-- the arguments of workers that don't wait
abbrev pub unpaced : ThreadsArgs → PacedArgs
unpaced args = record { args = args; pace = None }

-- the part of a plan in parsed arguments for `draw`
abbrev pub shown_of : DrawArgs → Shown
shown_of args = record { from = args.from; to = args.to; columns = args.columns }

-- the answer in parsed arguments for `explore --show`
abbrev pub shown_answer_of : ShownArgs → ShownAnswer
shown_answer_of args = record { line = args.line; answer = args.answer.now; phase = args.phase.now }

-- the list of steps in parsed arguments, the client, and the picture
abbrev pub stepped_of : StepsArgs → Stepped
stepped_of args = record { list = option_map (λ list. list.now) args.list; commands = args.commands; timing = args.timing; picture = args.picture }

-- what is printed according to parsed arguments, with these conditions
abbrev pub told_of : ConditionTexts → Told → ToldOf
told_of conditions All = tells_all
told_of conditions (Outcome number) = tells_outcome number
told_of conditions (Answer shown) = tells_answer (shown_answer_of shown)
told_of conditions (Verdict expect) = tells_verdict (record { expect = option_map (λ path. path.now) expect; conditions = conditions })
told_of conditions (Steps args) = tells_steps (stepped_of args)

-- the exploration in parsed arguments, with these conditions
abbrev pub explored_of : ConditionTexts → ExploreArgs → Explored
explored_of conditions args =
    record {
      meshes = pairs_of args.meshes;
      cancel = args.cancel;
      states = args.states;
      told = told_of conditions args.told;
      allows_no_mesh = args.allows_no_mesh;
      is_watched = args.is_watched;
    }

-- the judgement in parsed arguments for `check`
abbrev pub checked_of : CheckArgs → Checked
checked_of args = record { configurations = args.configurations; is_ordered = args.is_ordered; is_witnessed = args.is_witnessed }

-- when rounds are made, and the form of the figures, in parsed arguments for `savings`
abbrev pub rounds_of : RoundsAsked → Rounds
rounds_of (Every frees) = every frees
rounds_of (Share part) = share part

abbrev pub form_of : FiguresForm → Form
form_of Table = table
form_of Plot = plot
form_of Csv = csv

-- the comparison in parsed arguments for `savings`
abbrev pub compared_of : SavingsArgs → Compared
compared_of args =
    record {
      rounds = rounds_of args.rounds;
      members = args.members;
      probe = args.probe;
      seed = args.seed;
      from = args.from;
      to = args.to;
      form = form_of args.form;
    }

-- the sizes of parsed arguments for `live`
abbrev pub sizes_of : LiveArgs → SessionSizes
sizes_of args = record { pages = args.pages; history = args.history; workers = args.workers }

-- what parsed arguments ask for, with these conditions
abbrev pub asking : ConditionTexts → Args → Asked
asking conditions (Replay path) = replay_of path.now
asking conditions (ReplayHistory path) = replay_history_of path.now
asking conditions (ReplayEcho path) = replay_echo_of path.now
asking conditions (Threads path args) = threads_of path.now (numbers_of (unpaced args))
asking conditions (ThreadsPaced path args) = threads_of path.now (numbers_of args)
asking conditions (ThreadsHistory path args) = threads_history_of path.now (numbers_of args)
asking conditions (ThreadsReport path args) = threads_report_of path.now (numbers_of args)
asking conditions (Draw path args) = draw_of path.now (shown_of args)
asking conditions (DrawText path args) = draw_text_of path.now (shown_of args)
asking conditions (DrawHtml path args) = draw_html_of path.now (shown_of args)
asking conditions (Explore path args) = explore_of path.now (explored_of conditions args)
asking conditions (Live args) = live_of (sizes_of args)
asking conditions (Check path args) = check_of path.now (checked_of args)
asking conditions (Savings path args) = savings_of path.now (compared_of args)

-- what a request asks for
abbrev pub asking_of : Request → Asked
asking_of request = asking (conditions_of request.conditions) request.args

-- the words ask for what these arguments ask for, with the conditions that the words have
abbrev pub IsAsked : List Text → Args → Type 0
IsAsked words args = asked words ≡ Some (asking (conditions_asked words) args)

-- this is the request of the words: its arguments are asked for, and the words have its conditions
pub record IsRequested (words : List Text) (request : Request) : Type 0 where
  pub args : IsAsked words request.args
  pub conditions : conditions_of request.conditions ≡ conditions_asked words
  pub explains : request.explains ≡ explains_asked words

-- the error that may be reported of the words: out of memory, a fault of the words, or a request for help. If the words
-- ask for nothing, the error may also be that a value can't be read
abbrev pub IsSaidOf : List Text → ErrorKind → Type 0
IsSaidOf words kind =
    (kind ≡ OutOfMemory) ⊎ (IsAmong kind (kinds_of words) ⊎ ((asked words ≡ None) × (kind ≡ ValueValidation)))

-- if the words are a command line of the program, the only error is out of memory, or the words ask for nothing
abbrev pub IsAllowedOf : List Text → ErrorKind → Type 0
IsAllowedOf words kind = is_taken words ≡ true → (kind ≡ OutOfMemory) ⊎ (asked words ≡ None)

-- ---- how the program stops

-- the exit status for an error or a request that `clap` reports: 1 if out of memory, 0 for help and version, otherwise
-- 2
abbrev pub status_of_kind : ErrorKind → ℕ
status_of_kind OutOfMemory = 1
status_of_kind DisplayHelp = 0
status_of_kind DisplayVersion = 0
status_of_kind other = 2

-- the program stops because it is out of memory
pub record IsOutOfMemory (stop : Stop) : Type 0 where
  pub status : stop.status ≡ 1
  pub text : cow_str_bytes stop.text ≡ ended (codes "out of memory")

-- the program stops because the command line isn't UTF-8 text
pub record IsNoText (stop : Stop) : Type 0 where
  pub status : stop.status ≡ 2
  pub text : cow_str_bytes stop.text ≡ ended (codes "error: the command line is not UTF-8 text")

-- the program stops because it is out of memory, or with the exit status for what `clap` reports of these words
abbrev pub IsStopAt : List Text → Stop → Type 0
IsStopAt words stop = IsOutOfMemory stop ⊎ ((kind : ErrorKind) × IsSaidOf words kind × (stop.status ≡ status_of_kind kind))
