-- A job's walk keeps the count of physical pages, so its reports add up.
use Rattle.std.proofs.lemmas.Bool.Decides.{nat_tests}
use Rattle.std.proofs.Common.{◌≡◌, ℕ, ◌+◌, true, nat_eq, List, [], ◌∷◌, Result, Ok, Err, slice_index_or, refl, arith}
use Rattle.model_heap.proofs.CountedPages.{begin_counted, cancel_counted, free_counted, new_counted, step_counted, sweep_counted, taken_mapped, whole_counted}
use Rattle.model_jobs.proofs.JobHistories.{answer_running, busy, lines_keep, opening_running, run_keeps}
use Rattle.model_jobs.specs.JobLaws.{IsRunning}
use Rattle.model_jobs.specs.Jobs.{Answer, Job, Line, PagesMeshed, PagesSwept, State, StepsLeft, answer, answered, counted, new_answered, new_at, initial_state, others_answered, run_next, busy_in, state_after, step_answered, table_freed, RunWorker, PairClass, BeginMesh, StepMesh, CancelMesh, StepClass, CancelClass, WholeMesh, SweepGroup, MakeReport}
use Rattle.model_memory.specs.Memory.{Memory, next_serial}
use Rattle.model_heap.specs.Mesh.{Stepped, begin, cancel, first_mesh, mesh_in, mesh_whole, step}
use Rattle.model_heap.specs.PageCounts.{AreCounted}
use Rattle.model_memory.specs.Plain.{Named, named_by, plain}
use Rattle.model_heap.specs.Sound.{IsSound}
use Rattle.model_heap.specs.Table.{Counted, Placed, Table, place_new, report_of, sweep}
use Rattle.model_words.specs.declared.commands.Command.{Command}
use Rattle.model_words.specs.declared.commands.Command.TheVariants.{New, Put, Get, Free, Alias, Addr, Peek, Poke, Copy as CopyBytes}
use Rattle.model_words.specs.declared.commands.Reply.{Reply}
use Rattle.model_words.specs.declared.refusals.Refusal.{Refusal}

-- a new object answered keeps the count
new_keeps : (pages : ℕ) (m : Memory) (t : Table) (command : Command) (r : Result Placed Refusal) → AreCounted pages t
    → ((placed : Placed) → r ≡ Ok placed → AreCounted pages placed.table) → AreCounted pages (new_answered m t command r).table
new_keeps pages m t command (Err refusal) counted keeps = counted
new_keeps pages m t command (Ok placed) counted keeps = at (plain m placed.address command) (keeps placed refl)
  where
    at : (r : Result (Reply × Memory) Refusal) → AreCounted pages placed.table → AreCounted pages (new_at m placed r).table
    at (Ok x) done = done
    at (Err refusal) done = done

-- any other command answered keeps it, where the table after it does
others_keep_count : (pages : ℕ) (m : Memory) (t after : Table) (r : Result (Reply × Memory) Refusal) → AreCounted pages t → AreCounted pages after
    → AreCounted pages (others_answered m t after r).table
others_keep_count pages m t after (Err refusal) counted done = counted
others_keep_count pages m t after (Ok x) counted done = done

-- the table without a named object keeps it
freed_keeps : (pages : ℕ) (t : Table) (r : Result Named Refusal) → AreCounted pages t → AreCounted pages (table_freed t r)
freed_keeps pages t (Err refusal) counted = counted
freed_keeps pages t (Ok named) counted = free_counted pages t named.serial counted

-- a command answered keeps it
answered_counted : (pages : ℕ) (m : Memory) (t : Table) (command : Command) → IsSound t → AreCounted pages t → AreCounted pages (answered m t command).table
answered_counted pages m t (New cell len word) sound done =
    grind (arith, nat_tests, new_keeps pages m t (New cell len word) (place_new t len word (next_serial m)) done, new_counted pages t len word (next_serial m))
answered_counted pages m t (Free cell) sound done =
    others_keep_count pages m t (table_freed t (named_by m cell)) (plain m 0 (Free cell)) done (freed_keeps pages t (named_by m cell) done)
answered_counted pages m t (Put cell off bytes) sound done = others_keep_count pages m t t (plain m 0 (Put cell off bytes)) done done
answered_counted pages m t (Get cell off len) sound done = others_keep_count pages m t t (plain m 0 (Get cell off len)) done done
answered_counted pages m t (Alias to from) sound done = others_keep_count pages m t t (plain m 0 (Alias to from)) done done
answered_counted pages m t (Addr cell) sound done = others_keep_count pages m t t (plain m 0 (Addr cell)) done done
answered_counted pages m t (Peek place) sound done = others_keep_count pages m t t (plain m 0 (Peek place)) done done
answered_counted pages m t (Poke place byte) sound done = others_keep_count pages m t t (plain m 0 (Poke place byte)) done done
answered_counted pages m t (CopyBytes to to_off from from_off len) sound done =
    others_keep_count pages m t t (plain m 0 (CopyBytes to to_off from from_off len)) done done

-- the state's table has so many pages
abbrev HasPages : ℕ → State → Type 0
HasPages pages state = AreCounted pages state.table

-- a worker's attempt keeps it
run_counted : (job : Job) (state : State) (worker : ℕ) (commands : List Command) → IsSound state.table → HasPages job.pages state
    → HasPages job.pages (run_next job state worker commands).state
run_counted job state worker [] sound done = done
run_counted job state worker (command ∷ commands) sound done =
    run_keeps (HasPages job.pages) job state worker command commands done (answered_counted job.pages state.memory state.table command sound done)

-- a table with a count keeps it, where it has as many pages
counted_keeps : (pages : ℕ) (state : State) (say : ℕ → Answer) (r : Result Counted Refusal) → HasPages pages state
    → ((x : Counted) → r ≡ Ok x → AreCounted pages x.table) → HasPages pages (counted state say r).state
counted_keeps pages state say (Err refusal) done keeps = done
counted_keeps pages state say (Ok x) done keeps = keeps x refl

-- so does the table after a step
step_keeps : (pages : ℕ) (state : State) (r : Result Stepped Refusal) → HasPages pages state
    → ((x : Stepped) → r ≡ Ok x → AreCounted pages x.table) → HasPages pages (step_answered state r).state
step_keeps pages state (Err refusal) done keeps = done
step_keeps pages state (Ok x) done keeps = keeps x refl

-- each line of a plan keeps it
answer_counted : (job : Job) (state : State) (line : Line) → IsSound state.table → HasPages job.pages state → HasPages job.pages (answer job state line).state
answer_counted job state (RunWorker worker) sound done = run_counted job state worker (slice_index_or state.scripts worker []) sound done
answer_counted job state (PairClass class t words) sound done = done
answer_counted job state (BeginMesh source destination) sound done = grind (
  arith,
  nat_tests,
  counted_keeps job.pages state StepsLeft (begin (busy_in job.version) state.table source destination) done,
  begin_counted job.pages (busy_in job.version) state.table source destination,
)
answer_counted job state StepMesh sound done = step_keeps job.pages state (step state.table (first_mesh state.table)) done
    (λ x h. step_counted job.pages state.table (λ mesh. true) x sound done h)
answer_counted job state CancelMesh sound done = counted_keeps job.pages state StepsLeft (cancel state.table (first_mesh state.table)) done
    (λ x h. cancel_counted job.pages state.table (λ mesh. true) x sound done h)
answer_counted job state (StepClass class) sound done = step_keeps job.pages state (step state.table (mesh_in state.table class)) done
    (λ x h. step_counted job.pages state.table (λ mesh. nat_eq mesh.class class) x sound done h)
answer_counted job state (CancelClass class) sound done = counted_keeps job.pages state StepsLeft (cancel state.table (mesh_in state.table class)) done
    (λ x h. cancel_counted job.pages state.table (λ mesh. nat_eq mesh.class class) x sound done h)
answer_counted job state (WholeMesh source destination) sound done =
    counted_keeps job.pages state PagesMeshed (mesh_whole (busy_in job.version) state.table source destination) done
    (λ x h. whole_counted job.pages (busy_in job.version) state.table source destination x (busy job.version state.table) sound done h)
answer_counted job state (SweepGroup group) sound done = counted_keeps job.pages state PagesSwept (sweep state.table group) done
    (λ x h. sweep_counted job.pages state.table group x sound done h)
answer_counted job state MakeReport sound done = done

-- a job runs, and has its pages
abbrev RunsWithPages : Job → State → Type 0
RunsWithPages job state = IsRunning state × HasPages job.pages state

-- a job's table has the job's pages after any lines, and is sound
jobs_run : (job : Job) (lines : List Line) → RunsWithPages job (state_after job (initial_state job) lines)
jobs_run job lines = lines_keep (RunsWithPages job) job (initial_state job) lines
    (λ s line before. (answer_running job s line before.0, answer_counted job s line before.0.sound before.1)) (opening_running job, omega arith)

-- the table of a job keeps the count after any lines
pub jobs_counted : (job : Job) (lines : List Line) → AreCounted job.pages (state_after job (initial_state job) lines).table
jobs_counted job lines = (jobs_run job lines).1

-- a report of a sound table adds up
adds_up : (pages : ℕ) (t : Table) → IsSound t → AreCounted pages t → (report_of pages t).saved + (report_of pages t).taken ≡ (report_of pages t).mapped
adds_up pages t sound counted = let fewer = taken_mapped pages t sound counted in omega (arith, fewer)

-- the reports of a job add up
pub reports_add_up : (job : Job) (lines : List Line) → (report_of job.pages (state_after job (initial_state job) lines).table).saved
    + (report_of job.pages (state_after job (initial_state job) lines).table).taken ≡ (report_of job.pages (state_after job (initial_state job) lines).table).mapped
reports_add_up job lines = let run = jobs_run job lines in adds_up job.pages (state_after job (initial_state job) lines).table run.0.sound run.1
