-- Every history of a job is legal, and its pages are counted.
use Rattle.std.specs.Prelude.{◌≡◌, ℕ, ◌+◌, List, [], ◌∷◌, ◌++◌, slice_index_or, map}
use Rattle.model_jobs.specs.Jobs.{Answer, Job, Line, RunWorker, Replied, State, answer, answered, answers_from, initial_state, state_after}
use Rattle.model_memory.specs.Memory.{Memory}
use Rattle.model_memory.specs.Plain.{Entry, IsLegal, PlainStep}
use Rattle.model_heap.specs.Sound.{IsSound, IsTied}
use Rattle.model_heap.specs.Table.{Table, report_of}
use Rattle.model_words.specs.declared.commands.Command.{Command}
use Rattle.model_words.specs.declared.commands.Reply.{Reply}
use Rattle.model_memory.specs.Seats.{commands_of}
use Rattle.model_heap.specs.PageCounts.{AreCounted}

-- if the table is sound and tied to the memory, a command is answered as the reference memory may answer it
abbrev pub AnsweredIsStep : Type 0
AnsweredIsStep = (m : Memory) (t : Table) (command : Command) → IsSound t → IsTied m t
    → PlainStep m command (answered m t command).reply (answered m t command).memory

-- the state of a job during its plan: table and memory are sound and tied, and the history so far is legal
pub record IsRunning (state : State) : Type 0 where
  pub sound : IsSound state.table
  pub tied : IsTied state.memory state.table
  pub legal : IsLegal state.entries state.memory

-- `IsRunning` holds in the initial state of every job
abbrev pub InitialIsRunning : Type 0
InitialIsRunning = (job : Job) → IsRunning (initial_state job)

-- if `IsRunning` holds before a line, it holds after the line
abbrev pub AnswerKeepsRunning : Type 0
AnswerKeepsRunning = (job : Job) (state : State) (line : Line) → IsRunning state → IsRunning (answer job state line).state

-- `IsRunning` holds after any lines from the initial state of a job on
abbrev pub LinesKeepRunning : Type 0
LinesKeepRunning = (job : Job) (lines : List Line) → IsRunning (state_after job (initial_state job) lines)

-- the history of a job is legal after any lines
abbrev pub HistoryIsLegal : Type 0
HistoryIsLegal = (job : Job) (lines : List Line)
    → IsLegal (state_after job (initial_state job) lines).entries (state_after job (initial_state job) lines).memory

-- after any lines, a worker's answered commands followed by the rest of its script are its whole script
abbrev pub EntriesBeginScripts : Type 0
EntriesBeginScripts = (job : Job) (lines : List Line) (worker : ℕ)
    → commands_of worker (state_after job (initial_state job) lines).entries ++ slice_index_or (state_after job (initial_state job) lines).scripts worker []
    ≡ slice_index_or job.scripts worker []

-- a reply, and the worker that was given it
pub record Given : Type 0 where
  pub worker : ℕ
  pub reply : Reply

-- the reply that a line of a plan gave a worker: none unless the line ran a worker and was answered with a reply
abbrev pub given_by : Line → Answer → List Given
given_by (RunWorker worker) (Replied reply) = record { worker = worker; reply = reply } ∷ []
given_by line answer = []

-- the replies that lines of a plan gave workers, in the plan's order
abbrev pub replies_given : List Line → List Answer → List Given
replies_given (line ∷ lines) (answer ∷ answers) = given_by line answer ++ replies_given lines answers
replies_given lines answers = []

-- the replies of entries with their workers, in the order of the entries
abbrev pub replies_recorded : List Entry → List Given
replies_recorded entries = map (λ entry. record { worker = entry.worker; reply = entry.reply }) entries

-- the replies among the answers to lines of a plan are the replies of the entries, with the same workers and in the
-- same order
abbrev pub RepliesAreRecorded : Type 0
RepliesAreRecorded = (job : Job) (lines : List Line)
    → replies_given lines (answers_from job (initial_state job) lines) ≡ replies_recorded (state_after job (initial_state job) lines).entries

-- after any lines, the free pages and the pages of all spans add up to the job's physical pages and the released pages
abbrev pub JobsKeepCount : Type 0
JobsKeepCount = (job : Job) (lines : List Line) → AreCounted job.pages (state_after job (initial_state job) lines).table

-- in the report after any lines of a job, saved and taken pages add up to the mapped pages
abbrev pub ReportsAddUp : Type 0
ReportsAddUp = (job : Job) (lines : List Line) → (report_of job.pages (state_after job (initial_state job) lines).table).saved
    + (report_of job.pages (state_after job (initial_state job) lines).table).taken ≡ (report_of job.pages (state_after job (initial_state job) lines).table).mapped
