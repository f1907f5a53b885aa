-- The files that a command line names.
use Rattle.std.specs.Prelude.{ℕ, if◌then◌else◌, List, Option, Some, None, codes, option_map}
use Rattle.std.specs.Str.{bytes_eq}
use Rattle.run_command_line.specs.declared.command_line.Args.{Args}
use Rattle.run_command_line.specs.declared.command_line.Args.TheVariants.{Replay, ReplayHistory, ReplayEcho, Threads, ThreadsPaced, ThreadsHistory, ThreadsReport, Draw, DrawHtml, DrawText, Live, Explore, Check, Savings}
use Rattle.run_command_line.specs.declared.explore_args.Told.{Told}
use Rattle.run_command_line.specs.declared.explore_args.Told.TheVariants.{All, Outcome, Answer, Steps, Verdict}

-- the path of a file. `-` is standard input
abbrev pub file_at : List ℕ → Option (List ℕ)
file_at path = if bytes_eq path (codes "-") then None else Some path

-- the path of the input file. None for standard input
abbrev pub file_of : Args → Option (List ℕ)
file_of (Replay path) = file_at path.now
file_of (ReplayHistory path) = file_at path.now
file_of (ReplayEcho path) = file_at path.now
file_of (Threads path args) = file_at path.now
file_of (ThreadsPaced path args) = file_at path.now
file_of (ThreadsHistory path args) = file_at path.now
file_of (ThreadsReport path args) = file_at path.now
file_of (Draw path args) = file_at path.now
file_of (DrawText path args) = file_at path.now
file_of (DrawHtml path args) = file_at path.now
file_of (Live args) = None
file_of (Explore path args) = file_at path.now
file_of (Check path args) = file_at path.now
file_of (Savings path args) = file_at path.now

-- the path of the text of the expected outcomes, if a verdict on such a text is asked for
abbrev pub expected_path_of : Told → Option (List ℕ)
expected_path_of All = None
expected_path_of (Outcome number) = None
expected_path_of (Answer shown) = None
expected_path_of (Verdict path) = option_map (λ path. path.now) path
expected_path_of (Steps args) = None

-- the path of the text of the expected outcomes, if the arguments name one
abbrev pub expected_file_of : Args → Option (List ℕ)
expected_file_of (Replay path) = None
expected_file_of (ReplayHistory path) = None
expected_file_of (ReplayEcho path) = None
expected_file_of (Threads path args) = None
expected_file_of (ThreadsPaced path args) = None
expected_file_of (ThreadsHistory path args) = None
expected_file_of (ThreadsReport path args) = None
expected_file_of (Draw path args) = None
expected_file_of (DrawText path args) = None
expected_file_of (DrawHtml path args) = None
expected_file_of (Live args) = None
expected_file_of (Explore path args) = expected_path_of args.told
expected_file_of (Check path args) = None
expected_file_of (Savings path args) = None
