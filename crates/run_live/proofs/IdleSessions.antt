-- Where a session stands, as where its job does.
use Rattle.std.proofs.Common.{◌≡◌, ℕ, zero, suc, List, [], ◌∷◌, ◌++◌, drop, length, replicate, slice_index, slice_index_or, ap, refl, subst, sym, ◌∙◌}
use Rattle.std.proofs.lemmas.List.{length-replicate}
use Rattle.model_jobs.specs.Jobs.{Job, Line, Next, State, answer, run_next}
use Rattle.model_words.specs.declared.commands.Command.{Command}
use Rattle.run_live.specs.LiveLines.{Attempt, Call}
use Rattle.mesh_mutator.specs.Book.{Book}
use Rattle.mesh_text.specs.Turns.{IsAt, IsTold, book_of as book_of_turns, places_of, worker_count}
use Rattle.mesh_text.specs.declared.turns.Turns.{Turns}
use Rattle.run_live.specs.Answers.{live_answer, told_next}
use Rattle.run_live.specs.Sessions.{IsSession, book_of, job_of, sizes_of, state_in, state_of}
use Rattle.run_live.specs.declared.session.Session.{Session}
use Rattle.run_live.specs.declared.sizes.Sizes.{Sizes}

-- of scripts without a command each is one
none_in : (workers worker : ℕ) → slice_index_or (replicate {A = List Command} workers []) worker [] ≡ []
none_in zero worker = refl
none_in (suc workers) zero = refl
none_in (suc workers) (suc worker) = none_in workers worker

-- and of a script without a command none is left at any place
none_left : (place : ℕ) → drop {A = Command} place [] ≡ []
none_left zero = refl
none_left (suc place) = refl

-- scripts that all have no command are these
all_over : (scripts : List (List Command)) → ((worker : ℕ) → slice_index_or scripts worker [] ≡ []) → scripts ≡ replicate (length scripts) []
all_over [] over = refl
all_over (script ∷ scripts) over =
    rw (over 0) (ap (λ (rest : List (List Command)). [] ∷ rest) (all_over scripts (λ worker. over (suc worker))))

-- the state where the job of a session stands is that of its book
pub stands_in : (sizes : Sizes) (state : State) (book : Book) (places : List ℕ) → IsAt (job_of sizes) state book places → state_in sizes.workers book ≡ state
stands_in sizes state book places at =
    let over : (worker : ℕ) → slice_index_or state.scripts worker [] ≡ []
    = λ worker. at.scripts worker ∙ ap (λ script. drop (slice_index places worker) script) (none_in sizes.workers worker) ∙ none_left (slice_index places worker) in
    let scripts : replicate sizes.workers [] ≡ state.scripts
    = sym (all_over state.scripts over ∙ ap (λ n. replicate {A = List Command} n []) (at.workers ∙ length-replicate sizes.workers [])) in
    rw (at.memory, at.table, at.entries, scripts) refl

-- a worker's script is over wherever a session stands
pub over_at : (session : Session) (worker : ℕ) → slice_index_or (state_of session).scripts worker [] ≡ []
over_at session worker = none_in (sizes_of session).workers worker

-- a session after a line's answer
pub record IsAnswered (session : Session) (turns : Turns) (next : Next) (text text' : List ℕ) : Type 0 where
  pub sound : IsSession (record session { turns = turns })
  pub text_is : text' ≡ text ++ (told_next next).text
  pub state_is : state_of (record session { turns = turns }) ≡ (told_next next).state

-- a line that was told leaves a session, which stands where the line's answer has it
pub answered_on : (session : Session) (turns : Turns) (next : Next) (text text' : List ℕ) → IsSession session → worker_count turns ≡ worker_count session.turns
    → IsTold session.job next (book_of_turns turns) (places_of turns) text text' → IsAnswered session turns next text text'
answered_on session turns next text text' sound workers told =
    let at = subst (λ (job : Job). IsAt job next.state (book_of_turns turns) (places_of turns)) sound.idle told.at in
    let state : state_of (record session { turns = turns }) ≡ next.state = stands_in (sizes_of session) next.state (book_of_turns turns) (places_of turns) at in
    record {
      sound = record {
        idle = sound.idle;
        workers = workers ∙ sound.workers;
        at = subst (λ (s : State). IsAt session.job s (book_of_turns turns) (places_of turns)) (sym state) told.at;
      };
      text_is = told.added;
      state_is = state;
    }

-- a session after an attempt
pub attempt_answered : (session : Session) (turns : Turns) (worker : ℕ) (command : Command) (text text' : List ℕ) → IsSession session
    → worker_count turns ≡ worker_count session.turns
    → ((job : Job) (state : State) → IsAt job state (book_of session) (places_of session.turns) → slice_index_or state.scripts worker [] ≡ []
    → IsTold job (run_next job state worker (command ∷ [])) (book_of_turns turns) (places_of turns) text text')
    → IsAnswered session turns (live_answer (job_of (sizes_of session)) (state_of session) (Attempt worker command)) text text'
attempt_answered session turns worker command text text' sound workers told =
    answered_on session turns (run_next (job_of (sizes_of session)) (state_of session) worker (command ∷ [])) text text' sound workers
    (subst (λ (job : Job). IsTold session.job (run_next job (state_of session) worker (command ∷ [])) (book_of_turns turns) (places_of turns) text text') sound.idle
    (told session.job (state_of session) sound.at (over_at session worker)))

-- and after a call of the mesher
pub call_answered : (session : Session) (turns : Turns) (line : Line) (text text' : List ℕ) → IsSession session → worker_count turns ≡ worker_count session.turns
    → ((state : State) → IsAt session.job state (book_of session) (places_of session.turns)
    → IsTold session.job (answer session.job state line) (book_of_turns turns) (places_of turns) text text')
    → IsAnswered session turns (live_answer (job_of (sizes_of session)) (state_of session) (Call line)) text text'
call_answered session turns line text text' sound workers told =
    answered_on session turns (answer (job_of (sizes_of session)) (state_of session) line) text text' sound workers
    (subst (λ (job : Job). IsTold session.job (answer job (state_of session) line) (book_of_turns turns) (places_of turns) text text') sound.idle
    (told (state_of session) sound.at))
