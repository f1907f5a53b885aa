-- A job, and its answers: reference memory and table go through the plan together. This project's own choice.
use Rattle.std.specs.Prelude.{ℕ, ◌+◌, Bool, false, if◌then◌else◌, nat_le, List, [], ◌∷◌, ◌++◌, Result, Ok, Err, length, slice_index_or, slice_set}
use Rattle.model_memory.specs.Memory.{Memory, empty_memory, next_serial}
use Rattle.model_heap.specs.Mesh.{any_mesh, mesh_of_class, begin, step, cancel, mesh_whole, first_mesh, mesh_in, is_blocked, Stepped}
use Rattle.model_memory.specs.Plain.{Named, named_by, both_named, plain, Entry}
use Rattle.model_search.specs.Search.{Found, search, view_of}
use Rattle.model_heap.specs.Table.{Table, Counted, Placed, Report, empty_table, place_new, report_of, sweep, without_object}
use Rattle.model_words.specs.declared.commands.Command.{Command}
use Rattle.model_words.specs.declared.commands.Command.TheVariants.{New, Put, Free, Poke, Copy as CopyBytes}
use Rattle.model_words.specs.declared.commands.Reply.{Reply}
use Rattle.model_words.specs.declared.commands.Reply.TheVariants.{Refused}
use Rattle.model_words.specs.declared.commands.StepKind.{StepKind}
use Rattle.model_words.specs.declared.refusals.Refusal.{Refusal}
use Rattle.model_words.specs.declared.versions.Version.{Version}
use Rattle.model_words.specs.declared.versions.Version.TheVariants.{One, Two}
use Rattle.model_words.specs.Replies.{is_refusal}

-- a line of a job's plan: a worker's attempt, a call of the mesher, or a report. `StepMesh` and `CancelMesh` are for
-- the one running mesh, `StepClass` and `CancelClass` for the running mesh of a class
pub data Line : Type 0 where
  RunWorker : ℕ → Line
  PairClass : ℕ → ℕ → List ℕ → Line
  BeginMesh : ℕ → ℕ → Line
  StepMesh : Line
  CancelMesh : Line
  StepClass : ℕ → Line
  CancelClass : ℕ → Line
  WholeMesh : ℕ → ℕ → Line
  SweepGroup : ℕ → Line
  MakeReport : Line

-- a job: the version of its file, its physical pages, the capacity of its journal, a script for each worker, and the
-- plan
pub record Job : Type 0 where
  pub version : Version
  pub pages : ℕ
  pub history : ℕ
  pub scripts : List (List Command)
  pub plan : List Line

-- the answer to a line of the plan
pub data Answer : Type 0 where
  Replied : Reply → Answer
  StoreBlocked : Answer
  JournalFull : Answer
  ScriptOver : Answer
  StepsLeft : ℕ → Answer
  StepMade : StepKind → ℕ → Answer
  PagesMeshed : ℕ → Answer
  PagesSwept : ℕ → Answer
  PairsFound : Found → Answer
  Reported : Report → Answer
  MesherRefused : Refusal → Answer

-- the state of a job: reference memory, table, the rest of each script, and the answered commands so far
pub record State : Type 0 where
  pub memory : Memory
  pub table : Table
  pub scripts : List (List Command)
  pub entries : List Entry

-- an answer, and the job's state after it
pub record Next : Type 0 where
  pub answer : Answer
  pub state : State

-- the state at the beginning of a job
abbrev pub initial_state : Job → State
initial_state job = record { memory = empty_memory; table = empty_table job.pages; scripts = job.scripts; entries = [] }

-- the outcome of a command: its reply, and memory and table after it
pub record Outcome : Type 0 where
  pub reply : Reply
  pub memory : Memory
  pub table : Table

-- the outcome of a `new` that the table has placed: the reference memory gives reply and memory, or a refusal and then
-- the memory is unchanged. In both cases the table is the one after placing
abbrev pub new_at : Memory → Placed → Result (Reply × Memory) Refusal → Outcome
new_at m placed (Ok x) = record { reply = x.0; memory = x.1; table = placed.table }
new_at m placed (Err refusal) = record { reply = Refused refusal; memory = m; table = placed.table }

-- the outcome of a `new`: if the table refuses it, nothing changes. Otherwise the table chooses the address, and the
-- reference memory gives reply and memory
abbrev pub new_answered : Memory → Table → Command → Result Placed Refusal → Outcome
new_answered m t command (Err refusal) = record { reply = Refused refusal; memory = m; table = t }
new_answered m t command (Ok placed) = new_at m placed (plain m placed.address command)

-- the outcome of any other command: if the reference memory refuses it, nothing changes. Otherwise the reference memory
-- gives reply and memory, and the table is `after`
abbrev pub others_answered : Memory → Table → Table → Result (Reply × Memory) Refusal → Outcome
others_answered m t after (Err refusal) = record { reply = Refused refusal; memory = m; table = t }
others_answered m t after (Ok x) = record { reply = x.0; memory = x.1; table = after }

-- the table without the object that a cell names, or the same table if the cell names no live object
abbrev pub table_freed : Table → Result Named Refusal → Table
table_freed t (Err refusal) = t
table_freed t (Ok named) = without_object t named.serial

-- the outcome of a command
abbrev pub answered : Memory → Table → Command → Outcome
answered m t (New cell len word) = new_answered m t (New cell len word) (place_new t len word (next_serial m))
answered m t (Free cell) = others_answered m t (table_freed t (named_by m cell)) (plain m 0 (Free cell))
answered m t command = others_answered m t t (plain m 0 command)

-- whether a store of `len` bytes to the object that a cell names touches a read-only page; false if the cell names no
-- live object
abbrev pub put_blocked : Table → ℕ → ℕ → Result Named Refusal → Bool
put_blocked t off len (Err refusal) = false
put_blocked t off len (Ok named) = is_blocked t (named.object.address + off) len

-- whether a copy of `len` bytes to the first of two named objects touches a read-only page; false if a cell names no
-- live object
abbrev pub copy_blocked : Table → ℕ → ℕ → Result (Named × Named) Refusal → Bool
copy_blocked t off len (Err refusal) = false
copy_blocked t off len (Ok pair) = is_blocked t (pair.0.object.address + off) len

-- whether a command would store to a read-only page: if it isn't refused, it is then blocked
abbrev pub touches_read_only : Memory → Table → Command → Bool
touches_read_only m t (Put cell off bytes) = put_blocked t off (length bytes.items) (named_by m cell)
touches_read_only m t (Poke address byte) = is_blocked t address 1
touches_read_only m t (CopyBytes to to_off from from_off len) = copy_blocked t to_off len (both_named m to from)
touches_read_only m t command = false

-- the commands of a script after the first
abbrev pub later_commands : List Command → List Command
later_commands [] = []
later_commands (command ∷ commands) = commands

-- the state after a worker's command with this outcome: the command is removed from its script and added to the entries
abbrev pub with_reply : State → ℕ → Command → Outcome → State
with_reply state worker command done = record {
  memory = done.memory;
  table = done.table;
  scripts = slice_set state.scripts worker (later_commands (slice_index_or state.scripts worker []));
  entries = state.entries ++ record { worker = worker; command = command; reply = done.reply } ∷ [];
}

-- an attempt at a command: if it is blocked, nothing changes. Otherwise its reply is returned and recorded
abbrev pub attempted : State → ℕ → Command → Bool → Outcome → Next
attempted state worker command blocked done =
    if blocked then record { answer = StoreBlocked; state = state }
    else record { answer = Replied done.reply; state = with_reply state worker command done }

-- whether the command is blocked: it touches a read-only page, and it isn't refused
abbrev pub is_held_back : Memory → Table → Command → Reply → Bool
is_held_back m t command reply = if is_refusal reply then false else touches_read_only m t command

-- a worker's attempt at the first of its remaining commands, if one is left and the journal has room
abbrev pub run_next : Job → State → ℕ → List Command → Next
run_next job state worker [] = record { answer = ScriptOver; state = state }
run_next job state worker (command ∷ commands) =
    if nat_le job.history (length state.entries) then record { answer = JournalFull; state = state }
    else (let done = answered state.memory state.table command in attempted state worker command (is_held_back state.memory state.table command done.reply) done)

-- an answer of the mesher that changes nothing
abbrev pub told : State → Answer → Next
told state answer = record { answer = answer; state = state }

-- the answer to a mesher's call that counts, and the state after it. If the call is refused, nothing changes
abbrev pub counted : State → (ℕ → Answer) → Result Counted Refusal → Next
counted state say (Err refusal) = told state (MesherRefused refusal)
counted state say (Ok x) = record { answer = say x.count; state = record state { table = x.table } }

-- the answer to a step of a mesh, and the state after it. If the step is refused, nothing changes
abbrev pub step_answered : State → Result Stepped Refusal → Next
step_answered state (Err refusal) = told state (MesherRefused refusal)
step_answered state (Ok x) = record { answer = StepMade x.kind x.left; state = record state { table = x.table } }

-- whether a running mesh keeps two groups of a class from being meshed: in version 1 any mesh does, in version 2 only a
-- mesh of the class
abbrev pub busy_in : Version → Table → ℕ → Bool
busy_in One = any_mesh
busy_in Two = mesh_of_class

-- the answer to a line of the plan, and the job's state after it
abbrev pub answer : Job → State → Line → Next
answer job state (RunWorker worker) = run_next job state worker (slice_index_or state.scripts worker [])
answer job state (PairClass class t words) = told state (PairsFound (search (view_of state.table class) words t))
answer job state (BeginMesh source destination) = counted state StepsLeft (begin (busy_in job.version) state.table source destination)
answer job state StepMesh = step_answered state (step state.table (first_mesh state.table))
answer job state CancelMesh = counted state StepsLeft (cancel state.table (first_mesh state.table))
answer job state (StepClass class) = step_answered state (step state.table (mesh_in state.table class))
answer job state (CancelClass class) = counted state StepsLeft (cancel state.table (mesh_in state.table class))
answer job state (WholeMesh source destination) = counted state PagesMeshed (mesh_whole (busy_in job.version) state.table source destination)
answer job state (SweepGroup group) = counted state PagesSwept (sweep state.table group)
answer job state MakeReport = told state (Reported (report_of job.pages state.table))

-- the answers to lines of the plan, in order, from a state on
abbrev pub answers_from : Job → State → List Line → List Answer
answers_from job state [] = []
answers_from job state (line ∷ lines) = let next = answer job state line in next.answer ∷ answers_from job next.state lines

-- the answers to the whole plan of a job
abbrev pub answers : Job → List Answer
answers job = answers_from job (initial_state job) job.plan

-- the job's state after lines of the plan, from a state on
abbrev pub state_after : Job → State → List Line → State
state_after job state [] = state
state_after job state (line ∷ lines) = state_after job (answer job state line).state lines
