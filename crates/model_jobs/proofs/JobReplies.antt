-- The replies among a job's answers are those of its entries.
use Rattle.std.proofs.Common.{◌≡◌, ℕ, Bool, true, false, nat_le, List, [], ◌∷◌, ◌++◌, length, slice_index_or, Result, Ok, Err, ap, sym, ◌∙◌, inl, inr, append-nil, append_assoc}
use Rattle.std.proofs.lemmas.List.{map-append}
use Rattle.model_words.proofs.Tests.{tells}
use Rattle.model_jobs.specs.JobLaws.{Given, given_by, replies_given, replies_recorded}
use Rattle.model_jobs.specs.Jobs.{Answer, Job, Line, Next, Outcome, PagesMeshed, PagesSwept, State, StepsLeft, answer, answered, answers_from, attempted, busy_in, counted, is_held_back, initial_state, run_next, state_after, step_answered, RunWorker, PairClass, BeginMesh, StepMesh, CancelMesh, StepClass, CancelClass, WholeMesh, SweepGroup, MakeReport}
use Rattle.model_heap.specs.Mesh.{Stepped, begin, cancel, first_mesh, mesh_in, mesh_whole, step}
use Rattle.model_memory.specs.Plain.{Entry}
use Rattle.model_heap.specs.Table.{Counted, sweep}
use Rattle.model_words.specs.declared.commands.Command.{Command}
use Rattle.model_words.specs.declared.refusals.Refusal.{Refusal}

-- the reply that a line gave is that of the entry that it added, if any
abbrev AddsItsReply : State → Line → Next → Type 0
AddsItsReply state line next = replies_recorded next.state.entries ≡ replies_recorded state.entries ++ given_by line next.answer

-- where no entry was added and no reply given
nothing_added : (state : State) → replies_recorded state.entries ≡ replies_recorded state.entries ++ []
nothing_added state = sym (append-nil (replies_recorded state.entries))

attempt_adds : (state : State) (worker : ℕ) (command : Command) (blocked : Bool) (done : Outcome)
    → AddsItsReply state (RunWorker worker) (attempted state worker command blocked done)
attempt_adds state worker command true done = nothing_added state
attempt_adds state worker command false done =
    map-append (λ (e : Entry). record { worker = e.worker; reply = e.reply }) state.entries (record { worker = worker; command = command; reply = done.reply } ∷ [])

run_adds : (job : Job) (state : State) (worker : ℕ) (commands : List Command) → AddsItsReply state (RunWorker worker) (run_next job state worker commands)
run_adds job state worker [] = nothing_added state
run_adds job state worker (command ∷ commands) = elim (tells (nat_le job.history (length state.entries))) [
  | inl full ↦ rw full (nothing_added state)
  | inr room ↦ rw room (attempt_adds state worker command (is_held_back state.memory state.table command (answered state.memory state.table command).reply)
      (answered state.memory state.table command))
]

-- a call of the mesher adds no entry
abbrev KeepsEntries : State → Next → Type 0
KeepsEntries state next = replies_recorded next.state.entries ≡ replies_recorded state.entries ++ []

counted_adds : (state : State) (say : ℕ → Answer) (r : Result Counted Refusal) → KeepsEntries state (counted state say r)
counted_adds state say (Ok x) = nothing_added state
counted_adds state say (Err refusal) = nothing_added state

step_adds : (state : State) (r : Result Stepped Refusal) → KeepsEntries state (step_answered state r)
step_adds state (Ok x) = nothing_added state
step_adds state (Err refusal) = nothing_added state

-- each line adds the reply that it gave
line_adds : (job : Job) (state : State) (line : Line) → AddsItsReply state line (answer job state line)
line_adds job state (RunWorker worker) = run_adds job state worker (slice_index_or state.scripts worker [])
line_adds job state (PairClass class t words) = nothing_added state
line_adds job state MakeReport = nothing_added state
line_adds job state StepMesh = step_adds state (step state.table (first_mesh state.table))
line_adds job state (StepClass class) = step_adds state (step state.table (mesh_in state.table class))
line_adds job state CancelMesh = counted_adds state StepsLeft (cancel state.table (first_mesh state.table))
line_adds job state (CancelClass class) = counted_adds state StepsLeft (cancel state.table (mesh_in state.table class))
line_adds job state (BeginMesh source destination) = counted_adds state StepsLeft (begin (busy_in job.version) state.table source destination)
line_adds job state (WholeMesh source destination) = counted_adds state PagesMeshed (mesh_whole (busy_in job.version) state.table source destination)
line_adds job state (SweepGroup group) = counted_adds state PagesSwept (sweep state.table group)

-- lines add the replies that they gave, in their order
lines_add : (job : Job) (state : State) (lines : List Line)
    → replies_recorded (state_after job state lines).entries ≡ replies_recorded state.entries ++ replies_given lines (answers_from job state lines)
lines_add job state [] = nothing_added state
lines_add job state (line ∷ lines) =
    lines_add job (answer job state line).state lines
    ∙ ap (λ (gs : List Given). gs ++ replies_given lines (answers_from job (answer job state line).state lines)) (line_adds job state line)
    ∙ append_assoc (replies_recorded state.entries) (given_by line (answer job state line).answer)
    (replies_given lines (answers_from job (answer job state line).state lines))

-- the replies among the answers to lines of a plan are those of the entries
pub replies_are_recorded : (job : Job) (lines : List Line)
    → replies_given lines (answers_from job (initial_state job) lines) ≡ replies_recorded (state_after job (initial_state job) lines).entries
replies_are_recorded job lines = sym (lines_add job (initial_state job) lines)
