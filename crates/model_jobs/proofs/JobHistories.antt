-- A job's walk keeps table and memory sound and tied, and its history legal.
use Rattle.std.proofs.Common.{◌≡◌, ℕ, ◌<◌, true, cond, nat_eq, List, [], ◌∷◌, ◌++◌, length, slice_index_or, slice_set, ap, refl, sym, ◌∙◌, arith, inl, inr, Some, None, Result, Ok, Err, append_assoc, append-nil}
use Rattle.std.proofs.lemmas.Bool.Decides.{nat_tests, eqb_tells}
use Rattle.std.proofs.lemmas.List.{get_or-set_same, get_or-set_other, get_or_past}
use Rattle.model_jobs.proofs.AnsweredCommands.{answered_well}
use Rattle.model_words.proofs.Tests.{tells}
use Rattle.model_memory.proofs.Histories.{Runs_more}
use Rattle.model_heap.proofs.MeshLists.{any_tells, class_tells}
use Rattle.model_heap.proofs.TableChanges.{begin_sound, cancel_sound, empty_sound, step_sound, sweep_sound, whole_sound}
use Rattle.model_heap.proofs.TiedTables.{begin_tied, cancel_tied, step_tied, sweep_tied, whole_tied}
use Rattle.model_jobs.specs.JobLaws.{IsRunning}
use Rattle.model_memory.specs.Seats.{commands_of}
use Rattle.model_jobs.specs.Jobs.{Answer, Job, Line, Outcome, PagesMeshed, PagesSwept, State, StepsLeft, answer, answered, counted, later_commands, busy_in, initial_state, run_next, state_after, step_answered, with_reply, RunWorker, PairClass, BeginMesh, StepMesh, CancelMesh, StepClass, CancelClass, WholeMesh, SweepGroup, MakeReport}
use Rattle.model_memory.specs.Memory.{Object, empty_memory, object_of}
use Rattle.model_heap.specs.Mesh.{Stepped, begin, cancel, first_mesh, mesh_in, mesh_whole, step}
use Rattle.model_memory.specs.Plain.{Entry, IsLegal}
use Rattle.model_heap.specs.Sound.{IsSound, IsTied}
use Rattle.model_heap.specs.Table.{Counted, Table, empty_table, sweep}
use Rattle.model_heap.specs.TableLaws.{IsBusyTest}
use Rattle.model_words.specs.declared.commands.Command.{Command}
use Rattle.model_words.specs.declared.refusals.Refusal.{Refusal}
use Rattle.model_words.specs.declared.versions.Version.{Version}
use Rattle.model_words.specs.declared.versions.Version.TheVariants.{One, Two}

-- the memory with no object is tied to the table with no span
empty_tied : (pages : ℕ) → IsTied empty_memory (empty_table pages)
empty_tied pages = record {
  slots = λ number k group slot there filled. absurd (cc there);
  objects = λ serial object live. absurd (no_object serial object live);
}
  where
    no_object : (serial : ℕ) (object : Object) → object_of empty_memory serial ≡ Some object → ⊥
    no_object serial object live = let none : object_of empty_memory serial ≡ None = get_or_past [] serial None (omega arith) in
        let clash : Some object ≡ None = sym live ∙ none in cc clash

-- table and memory of a job's beginning are sound and tied, and its history is legal
pub opening_running : (job : Job) → IsRunning (initial_state job)
opening_running job = record { sound = empty_sound job.pages; tied = empty_tied job.pages; legal = refl }

-- a command answered keeps it so
reply_running : (state : State) (worker : ℕ) (command : Command) → IsRunning state
    → IsRunning (with_reply state worker command (answered state.memory state.table command))
reply_running state worker command running =
    let well = answered_well state.memory state.table command running.sound running.tied in record {
      sound = well.sound;
      tied = well.tied;
      legal = Runs_more empty_memory state.entries state.memory (answered state.memory state.table command).memory
          (record { worker = worker; command = command; reply = (answered state.memory state.table command).reply }) running.legal well.step;
    }

-- so does a worker's attempt at the next command, where the journal may be full
pub run_keeps : (P : State → Type 0) (job : Job) (state : State) (worker : ℕ) (command : Command) (commands : List Command) → P state
    → P (with_reply state worker command (answered state.memory state.table command)) → P (run_next job state worker (command ∷ commands)).state
run_keeps P job state worker command commands before after = grind arith

-- a worker's attempt keeps it so
run_running : (job : Job) (state : State) (worker : ℕ) (commands : List Command) → IsRunning state → IsRunning (run_next job state worker commands).state
run_running job state worker [] running = running
run_running job state worker (command ∷ commands) running =
    run_keeps (λ s. IsRunning s) job state worker command commands running (reply_running state worker command running)

-- a table with a count keeps it so, where it is sound and tied
counted_running : (state : State) (say : ℕ → Answer) (r : Result Counted Refusal) → IsRunning state
    → ((x : Counted) → r ≡ Ok x → IsSound x.table × IsTied state.memory x.table) → IsRunning (counted state say r).state
counted_running state say (Err refusal) running keeps = running
counted_running state say (Ok x) running keeps = let kept = keeps x refl in record { sound = kept.0; tied = kept.1; legal = running.legal }

-- so does the table after a step
step_running : (state : State) (r : Result Stepped Refusal) → IsRunning state
    → ((x : Stepped) → r ≡ Ok x → IsSound x.table × IsTied state.memory x.table) → IsRunning (step_answered state r).state
step_running state (Err refusal) running keeps = running
step_running state (Ok x) running keeps = let kept = keeps x refl in record { sound = kept.0; tied = kept.1; legal = running.legal }

-- where no mesh is in the way, none of the class runs
pub busy : (version : Version) (t : Table) → IsBusyTest (busy_in version) t
busy One t class h = any_tells class t.meshes h
busy Two t class h = class_tells class t.meshes h

-- each line of a plan keeps it so
pub answer_running : (job : Job) (state : State) (line : Line) → IsRunning state → IsRunning (answer job state line).state
answer_running job state (RunWorker worker) running = run_running job state worker (slice_index_or state.scripts worker []) running
answer_running job state (PairClass class t words) running = running
answer_running job state (BeginMesh source destination) running =
    counted_running state StepsLeft (begin (busy_in job.version) state.table source destination) running (λ x h. (
      begin_sound (busy_in job.version) state.table source destination x (busy job.version state.table) running.sound h,
      begin_tied state.memory (busy_in job.version) state.table source destination x running.tied h,
    ))
answer_running job state StepMesh running = step_running state (step state.table (first_mesh state.table)) running (λ x h.
    (step_sound state.table (λ mesh. true) x running.sound h, step_tied state.memory state.table (λ mesh. true) x running.sound running.tied h))
answer_running job state CancelMesh running = counted_running state StepsLeft (cancel state.table (first_mesh state.table)) running (λ x h.
    (cancel_sound state.table (λ mesh. true) x running.sound h, cancel_tied state.memory state.table (first_mesh state.table) x running.tied h))
answer_running job state (StepClass class) running = step_running state (step state.table (mesh_in state.table class)) running (λ x h. (
  step_sound state.table (λ mesh. nat_eq mesh.class class) x running.sound h,
  step_tied state.memory state.table (λ mesh. nat_eq mesh.class class) x running.sound running.tied h,
))
answer_running job state (CancelClass class) running = counted_running state StepsLeft (cancel state.table (mesh_in state.table class)) running (λ x h. (
  cancel_sound state.table (λ mesh. nat_eq mesh.class class) x running.sound h,
  cancel_tied state.memory state.table (mesh_in state.table class) x running.tied h,
))
answer_running job state (WholeMesh source destination) running =
    counted_running state PagesMeshed (mesh_whole (busy_in job.version) state.table source destination) running (λ x h. (
      whole_sound (busy_in job.version) state.table source destination x (busy job.version state.table) running.sound h,
      whole_tied state.memory (busy_in job.version) state.table source destination x running.tied h,
    ))
answer_running job state (SweepGroup group) running = counted_running state PagesSwept (sweep state.table group) running (λ x h.
    (sweep_sound state.table group x running.sound h, sweep_tied state.memory state.table group x running.tied h))
answer_running job state MakeReport running = running

-- what each line keeps, all lines keep
pub lines_keep : (P : State → Type 0) (job : Job) (state : State) (lines : List Line) → ((s : State) (line : Line) → P s → P (answer job s line).state)
    → P state → P (state_after job state lines)
lines_keep P job state [] keeps before = before
lines_keep P job state (line ∷ lines) keeps before = lines_keep P job (answer job state line).state lines keeps (keeps state line before)

-- lines from a job's beginning on keep it so
pub lines_running : (job : Job) (lines : List Line) → IsRunning (state_after job (initial_state job) lines)
lines_running job lines =
    lines_keep (λ s. IsRunning s) job (initial_state job) lines (λ s line before. answer_running job s line before) (opening_running job)

-- the history of a job is legal after any lines
pub history_legal : (job : Job) (lines : List Line) → IsLegal (state_after job (initial_state job) lines).entries (state_after job (initial_state job) lines).memory
history_legal job lines = (lines_running job lines).legal

-- one entry more of the worker, or of another one
commands_more : (worker : ℕ) (entries : List Entry) (entry : Entry)
    → commands_of worker (entries ++ entry ∷ []) ≡ commands_of worker entries ++ cond (nat_eq entry.worker worker) (entry.command ∷ []) []
commands_more worker [] entry = elim (tells (nat_eq entry.worker worker)) [ inl own ↦ rw own refl | inr other ↦ rw other refl ]
commands_more worker (first ∷ entries) entry = grind (arith, nat_tests, commands_more worker entries entry, entry)

-- the worker's entries, and after them what is left of its script, are this script
abbrev AreBegun : ℕ → List Command → State → Type 0
AreBegun worker script state = commands_of worker state.entries ++ slice_index_or state.scripts worker [] ≡ script

-- a worker with a command left is one of the scripts'
script_there : (scripts : List (List Command)) (worker : ℕ) (command : Command) (commands : List Command)
    → slice_index_or scripts worker [] ≡ command ∷ commands → worker < length scripts
script_there scripts worker command commands h = grind (arith, nat_tests, get_or_past scripts worker [])

-- a reply keeps it so
reply_begun : (state : State) (worker runner : ℕ) (script : List Command) (command : Command) (commands : List Command) (done : Outcome)
    → slice_index_or state.scripts runner [] ≡ command ∷ commands → AreBegun worker script state
    → AreBegun worker script (with_reply state runner command done)
reply_begun state worker runner script command commands done next begun = elim (eqb_tells runner worker) [
  | inl own ↦ let entries : commands_of worker (state.entries ++ entry ∷ []) ≡ commands_of worker state.entries ++ command ∷ []
      = rw own.0 at (commands_more worker state.entries entry) in
      let left : slice_index_or (slice_set state.scripts runner (later_commands (slice_index_or state.scripts runner []))) worker [] ≡ commands
      = ap (λ (n : ℕ). slice_index_or (slice_set state.scripts runner (later_commands (slice_index_or state.scripts runner []))) n []) (sym own.1)
      ∙ get_or-set_same state.scripts runner (later_commands (slice_index_or state.scripts runner [])) []
      (script_there state.scripts runner command commands next) ∙ ap (λ (cs : List Command). later_commands cs) next in
      let was : slice_index_or state.scripts worker [] ≡ command ∷ commands
      = ap (λ (n : ℕ). slice_index_or state.scripts n []) (sym own.1) ∙ next in
      ap (λ (cs : List Command). cs ++ slice_index_or (with_reply state runner command done).scripts worker []) entries
      ∙ ap (λ (cs : List Command). (commands_of worker state.entries ++ command ∷ []) ++ cs) left
      ∙ append_assoc (commands_of worker state.entries) (command ∷ []) commands
      ∙ ap (λ (cs : List Command). commands_of worker state.entries ++ cs) (sym was) ∙ begun
  | inr other ↦ let entries : commands_of worker (state.entries ++ entry ∷ []) ≡ commands_of worker state.entries ++ []
      = rw other.0 at (commands_more worker state.entries entry) in
      let left : slice_index_or (slice_set state.scripts runner (later_commands (slice_index_or state.scripts runner []))) worker []
      ≡ slice_index_or state.scripts worker []
      = get_or-set_other state.scripts runner worker (later_commands (slice_index_or state.scripts runner [])) [] (λ e. other.1 (sym e)) in
      ap (λ (cs : List Command). cs ++ slice_index_or (with_reply state runner command done).scripts worker [])
      (entries ∙ append-nil (commands_of worker state.entries))
      ∙ ap (λ (cs : List Command). commands_of worker state.entries ++ cs) left ∙ begun
]
  where
    entry : Entry
    entry = record { worker = runner; command = command; reply = done.reply }

-- a worker's attempt keeps it so
run_begun : (job : Job) (state : State) (worker runner : ℕ) (script commands : List Command) → slice_index_or state.scripts runner [] ≡ commands
    → AreBegun worker script state → AreBegun worker script (run_next job state runner commands).state
run_begun job state worker runner script [] next begun = begun
run_begun job state worker runner script (command ∷ commands) next begun = grind (
  arith,
  nat_tests,
  run_keeps,
  AreBegun,
  reply_begun state worker runner script command commands (answered state.memory state.table command) next begun,
)

-- a table with a count changes neither entries nor scripts
counted_begun : (state : State) (worker : ℕ) (script : List Command) (say : ℕ → Answer) (r : Result Counted Refusal) → AreBegun worker script state
    → AreBegun worker script (counted state say r).state
counted_begun state worker script say (Err refusal) begun = begun
counted_begun state worker script say (Ok x) begun = begun

-- nor does the table after a step
step_begun : (state : State) (worker : ℕ) (script : List Command) (r : Result Stepped Refusal) → AreBegun worker script state
    → AreBegun worker script (step_answered state r).state
step_begun state worker script (Err refusal) begun = begun
step_begun state worker script (Ok x) begun = begun

-- each line of a plan keeps it so
line_begun : (job : Job) (worker : ℕ) (script : List Command) (state : State) (line : Line) → AreBegun worker script state
    → AreBegun worker script (answer job state line).state
line_begun job worker script state (RunWorker runner) begun = run_begun job state worker runner script (slice_index_or state.scripts runner []) refl begun
line_begun job worker script state (PairClass class t words) begun = begun
line_begun job worker script state (BeginMesh source destination) begun =
    counted_begun state worker script StepsLeft (begin (busy_in job.version) state.table source destination) begun
line_begun job worker script state StepMesh begun = step_begun state worker script (step state.table (first_mesh state.table)) begun
line_begun job worker script state CancelMesh begun = counted_begun state worker script StepsLeft (cancel state.table (first_mesh state.table)) begun
line_begun job worker script state (StepClass class) begun = step_begun state worker script (step state.table (mesh_in state.table class)) begun
line_begun job worker script state (CancelClass class) begun =
    counted_begun state worker script StepsLeft (cancel state.table (mesh_in state.table class)) begun
line_begun job worker script state (WholeMesh source destination) begun =
    counted_begun state worker script PagesMeshed (mesh_whole (busy_in job.version) state.table source destination) begun
line_begun job worker script state (SweepGroup group) begun = counted_begun state worker script PagesSwept (sweep state.table group) begun
line_begun job worker script state MakeReport begun = begun

-- what a worker was answered is the beginning of its script, and the rest is left of it
pub entries_begin : (job : Job) (lines : List Line) (worker : ℕ)
    → commands_of worker (state_after job (initial_state job) lines).entries ++ slice_index_or (state_after job (initial_state job) lines).scripts worker []
    ≡ slice_index_or job.scripts worker []
entries_begin job lines worker = lines_keep (λ s. AreBegun worker (slice_index_or job.scripts worker []) s) job (initial_state job) lines
    (λ s line before. line_begun job worker (slice_index_or job.scripts worker []) s line before) refl
