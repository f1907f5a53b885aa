-- The caption that a picture has for a line of a plan.
use Rattle.std.specs.Prelude.{◌≡◌, ℕ, [], ◌++◌, List, Option, Some, None, codes, slice_get, slice_index_or}
use Rattle.model_jobs.specs.Jobs.{Job, Line, RunWorker, PairClass, BeginMesh, StepMesh, CancelMesh, StepClass, CancelClass, WholeMesh, SweepGroup, MakeReport, State}
use Rattle.model_jobs.specs.Texts.{command_text, line_text, number_field}
use Rattle.model_words.specs.declared.commands.Command.{Command}
use Rattle.mesh_text.specs.Turns.{state_up_to}

-- the text of an attempt: the worker, and the command that the worker attempts, if a command is left
abbrev pub attempt_text : ℕ → Option Command → List ℕ
attempt_text worker None = codes "worker" ++ number_field worker
attempt_text worker (Some command) = codes "worker" ++ number_field worker ++ codes ": " ++ command_text command

-- the command that a worker attempts next
abbrev pub next_command : State → ℕ → Option Command
next_command state worker = slice_get (slice_index_or state.scripts worker []) 0

-- the caption of a line, if the job is in this state before the line: for a worker's turn the attempt, and otherwise
-- the line as in a job file
abbrev pub caption_text : State → Line → List ℕ
caption_text state (RunWorker worker) = attempt_text worker (next_command state worker)
caption_text state (PairClass class t words) = line_text (PairClass class t words)
caption_text state (BeginMesh source destination) = line_text (BeginMesh source destination)
caption_text state StepMesh = line_text StepMesh
caption_text state CancelMesh = line_text CancelMesh
caption_text state (StepClass class) = line_text (StepClass class)
caption_text state (CancelClass class) = line_text (CancelClass class)
caption_text state (WholeMesh source destination) = line_text (WholeMesh source destination)
caption_text state (SweepGroup group) = line_text (SweepGroup group)
caption_text state MakeReport = line_text MakeReport

-- after all lines before this place were played, the words are the caption of the plan's line at the place
pub record IsCaption (job : Job) (place : ℕ) (words : List ℕ) : Type 0 where
  pub line : Line
  pub planned : slice_get job.plan place ≡ Some line
  pub says : words ≡ caption_text (state_up_to job place) line
