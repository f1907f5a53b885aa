-- A live session: its sizes, the job that models it, and its state.
use Rattle.std.specs.Prelude.{◌≡◌, ℕ, ◌≤◌, [], length, replicate}
use Rattle.model_jobs.specs.Jobs.{Job, State}
use Rattle.model_words.specs.declared.versions.Version.TheVariants.{Two}
use Rattle.mesh_mutator.specs.Book.{Book, memory_of_book, table_of_book}
use Rattle.mesh_text.specs.Turns.{IsAt, book_of as book_of_turns, places_of, worker_count}
use Rattle.run_live.specs.declared.session.Session.{Session}
use Rattle.run_live.specs.declared.sizes.Sizes.{Sizes}

-- these sizes are in the ranges of a job's sizes
pub record HasFairSizes (sizes : Sizes) : Type 0 where
  pub some_pages : 1 ≤ sizes.pages
  pub few_pages : sizes.pages ≤ 4096
  pub few_entries : sizes.history ≤ 65536
  pub some_workers : 1 ≤ sizes.workers
  pub few_workers : sizes.workers ≤ 64

-- the job that models a session of these sizes: its version is 2, its scripts and its plan are empty
abbrev pub job_of : Sizes → Job
job_of sizes = record { version = Two; pages = sizes.pages; history = sizes.history; scripts = replicate sizes.workers []; plan = [] }

-- the state of a session with this many workers and this book
abbrev pub state_in : ℕ → Book → State
state_in workers book =
    record { memory = memory_of_book book; table = table_of_book book; scripts = replicate workers []; entries = book.entries }

-- the sizes of a session
abbrev pub sizes_of : Session → Sizes
sizes_of session = record { pages = session.job.pages; history = session.job.history; workers = length session.job.scripts }

-- the heap of a session, with root cells and journal
abbrev pub book_of : Session → Book
book_of session = book_of_turns session.turns

-- the state of a session: the memory, table and entries of its book, and empty scripts
abbrev pub state_of : Session → State
state_of session = state_in (sizes_of session).workers (book_of session)

-- the session's job has empty scripts and an empty plan, and the session's book and places represent its state
pub record IsSession (session : Session) : Type 0 where
  pub idle : session.job ≡ job_of (sizes_of session)
  pub workers : worker_count session.turns ≡ (sizes_of session).workers
  pub at : IsAt session.job (state_of session) (book_of session) (places_of session.turns)
