-- The progress of the workers of a job, and the text that their answers add.
use Rattle.std.specs.Prelude.{◌≡◌, ℕ, List, [], ◌++◌, drop, length, slice_index, slice_index_or, take, vec_len}
use Rattle.std.specs.List.{flat_map}
use Rattle.model_jobs.specs.Jobs.{Answer, Job, Next, State, answers_from, initial_state, state_after}
use Rattle.model_jobs.specs.Texts.{answer_text, ended}
use Rattle.mesh_mutator.specs.Book.{Book, memory_of_book, table_of_book}
use Rattle.mesh_steps.specs.Heap.{arena_of}
use Rattle.mesh_text.specs.declared.turns.Turns.{Turns}

-- the book of the turns. The next definition is the place of each worker's next command
abbrev pub book_of : Turns → Book
book_of turns = turns.book

abbrev pub places_of : Turns → List ℕ
places_of turns = turns.next.items

-- the number of workers that take turns
abbrev pub worker_count : Turns → ℕ
worker_count turns = vec_len turns.next

-- this book, and these places of the workers' next commands, represent the state of the job
pub record IsAt (job : Job) (state : State) (book : Book) (places : List ℕ) : Type 0 where
  pub memory : memory_of_book book ≡ state.memory
  pub table : table_of_book book ≡ state.table
  pub entries : book.entries ≡ state.entries
  pub room : book.room ≡ job.history
  pub pages : length (arena_of book.heap) ≡ job.pages
  pub workers : length state.scripts ≡ length job.scripts
  pub scripts : (worker : ℕ) → slice_index_or state.scripts worker [] ≡ drop (slice_index places worker) (slice_index_or job.scripts worker [])

-- this is the answer to a line of the plan, and book and places represent the job's state after the line
pub record IsNextAt (job : Job) (next : Next) (book : Book) (places : List ℕ) (given : Answer) : Type 0 where
  pub answer_is : given ≡ next.answer
  pub at : IsAt job next.state book places

-- the answer to a line of the plan was added to the text, without a line end. Book and places represent the job's state
-- after the line
pub record IsTold (job : Job) (next : Next) (book : Book) (places : List ℕ) (text text' : List ℕ) : Type 0 where
  pub added : text' ≡ text ++ answer_text next.answer
  pub at : IsAt job next.state book places

-- if the old book represents a state of any job, with any places, the mesher's call returns this answer. The new book
-- represents the state after the call, with these places
abbrev pub IsCall : (State → Next) → Book → Book → Answer → Type 0
IsCall call old new given = (job : Job) (state : State) (places : List ℕ) → IsAt job state old places → IsNextAt job (call state) new places given

-- the lines of answers, each with its end
abbrev pub lines_of : List Answer → List ℕ
lines_of answers = flat_map (λ a. ended (answer_text a)) answers

-- the lines of the answers to the first `n` lines of a job's plan
abbrev pub lines_up_to : Job → ℕ → List ℕ
lines_up_to job n = lines_of (answers_from job (initial_state job) (take n job.plan))

-- the state of a job after the first `n` lines of its plan
abbrev pub state_up_to : Job → ℕ → State
state_up_to job n = state_after job (initial_state job) (take n job.plan)

-- exactly the first `n` lines of the job's plan were played
pub record StandsBehind (job : Job) (n : ℕ) (turns : Turns) : Type 0 where
  pub workers : worker_count turns ≡ length job.scripts
  pub at : IsAt job (state_up_to job n) (book_of turns) (places_of turns)
