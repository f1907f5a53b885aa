-- A worker's turn: what an attempt at its next command is to the job.
use Rattle.std.proofs.Common.{◌≡◌, ℕ, zero, suc, ◌+◌, ◌<◌, ◌≤◌, Bool, true, false, if◌then◌else◌, nat_le, List, [], ◌∷◌, ◌++◌, Option, Some, None, Result, drop, get_or, length, slice_get, slice_index, slice_index_or, slice_set, ap, subst, refl, sym, ◌∙◌, arith, inl, inr}
use Rattle.std.proofs.lemmas.Bool.Decides.{leb_tells}
use Rattle.std.proofs.lemmas.List.{get_or-set_other, get_or-set_same, get_or_default}
use Rattle.std.proofs.lemmas.Result.{on_ok_weaker}
use Rattle.std.proofs.Math.ListN.{length-set}
use Rattle.std.specs.Prelude.{OnOk}
use Rattle.model_jobs.specs.Jobs.{Answer, Job, Outcome, Replied, RunWorker, State, JournalFull, ScriptOver, StoreBlocked, answer, answered, attempted, later_commands, run_next, is_held_back}
use Rattle.model_jobs.specs.Texts.{answer_text}
use Rattle.model_memory.specs.Memory.{Memory}
use Rattle.model_memory.specs.Plain.{Entry}
use Rattle.model_heap.specs.Table.{Table}
use Rattle.model_words.specs.declared.commands.Command.{Command}
use Rattle.model_words.specs.declared.commands.Reply.{Reply}
use Rattle.mesh_mutator.specs.Book.{Book, IsAttempt, memory_of_book, table_of_book}
use Rattle.mesh_mutator.specs.declared.attempts.Attempt.{Attempt}
use Rattle.mesh_mutator.specs.declared.attempts.Attempt.TheVariants.{Blocked as HeldBack, Done, HistoryFull as NoRoom, OutOfMemory}
use Rattle.mesh_text.specs.Turns.{IsAt, IsNextAt, IsTold}
use Rattle.mesh_text.proofs.LineTexts.{told_at}

-- past the last command none is left
none_left : (n : ℕ) (script : List Command) → None ≡ slice_get script n → drop n script ≡ []
none_left zero [] at = refl
none_left zero (command ∷ script) at = absurd (cc at)
none_left (suc n) [] at = refl
none_left (suc n) (command ∷ script) at = none_left n script at

-- the command at a place is the first of those left
drop_next : (n : ℕ) (script : List Command) (command : Command) → Some command ≡ slice_get script n → drop n script ≡ command ∷ drop (suc n) script
drop_next zero [] command at = absurd (cc at)
drop_next zero (first ∷ script) command at = let same : command ≡ first = cc at in rw same refl
drop_next (suc n) [] command at = absurd (cc at)
drop_next (suc n) (first ∷ script) command at = drop_next n script command at

drop_at : (n : ℕ) (script : List Command) (command : Command) → Some command ≡ slice_get script n → drop n script ≡ command ∷ drop (n + 1) script
drop_at n script command at = let one : suc n ≡ n + 1 = omega arith in drop_next n script command at ∙ ap (λ (k : ℕ). command ∷ drop k script) one

-- the place that was read is the worker's place
pub at_place : (places : List ℕ) (script : List Command) (worker place : ℕ) (command : Option Command) → worker < length places → place ≡ get_or places worker place
    → command ≡ slice_get script place → command ≡ slice_get script (slice_index places worker)
at_place places script worker place command below is here = here ∙ ap (λ n. slice_get script n) (is ∙ get_or_default places worker place 0 below)

-- what the script's commands at the worker's place are to the state
commands_left : (job : Job) (state : State) (book : Book) (places : List ℕ) (script : List Command) (worker : ℕ) → IsAt job state book places
    → script ≡ slice_index_or job.scripts worker [] → slice_index_or state.scripts worker [] ≡ drop (slice_index places worker) script
commands_left job state book places script worker at is = at.scripts worker ∙ ap (λ s. drop (slice_index places worker) s) (sym is)

-- a worker whose script is passed is told so
pub turn_over : (job : Job) (state : State) (book : Book) (places : List ℕ) (script : List Command) (worker : ℕ) → IsAt job state book places
    → script ≡ slice_index_or job.scripts worker [] → None ≡ slice_get script (slice_index places worker)
    → IsNextAt job (answer job state (RunWorker worker)) book places ScriptOver
turn_over job state book places script worker at is past = grind (arith, none_left)

-- the outcome of a command is one on the state's memory and table
outcome_at : (m m' : Memory) (t t' : Table) (command : Command) → m ≡ m' → t ≡ t' → answered m t command ≡ answered m' t' command
outcome_at m m' t t' command memory table = rw (memory, table) refl

-- a command that is not held back is not blocked, and one that is held back is
held_at : (state : State) (m : Memory) (t : Table) (command : Command) (reply : Reply) (held : Bool) → m ≡ state.memory → t ≡ state.table
    → reply ≡ (answered m t command).reply → is_held_back m t command reply ≡ held
    → is_held_back state.memory state.table command (answered state.memory state.table command).reply ≡ held
held_at state m t command reply held memory table is h = grind arith

-- what a turn tells of an attempt that had memory
abbrev pub given_to : Attempt → Answer
given_to (Done reply) = Replied reply
given_to HeldBack = StoreBlocked
given_to NoRoom = JournalFull
given_to OutOfMemory = ScriptOver

-- the places after it: these where it had a reply
abbrev pub placed_by : Attempt → List ℕ → List ℕ → List ℕ
placed_by (Done reply) moved places = moved
placed_by HeldBack moved places = places
placed_by NoRoom moved places = places
placed_by OutOfMemory moved places = places

-- the places after a turn: its worker's is one further where there was a reply
abbrev pub passed_by : Attempt → List ℕ → ℕ → List ℕ
passed_by attempt places worker = placed_by attempt (slice_set places worker (slice_index places worker + 1)) places

-- the attempt had memory
abbrev pub HasMemory : Attempt → Type 0
HasMemory (Done reply) = Unit {0}
HasMemory HeldBack = Unit {0}
HasMemory NoRoom = Unit {0}
HasMemory OutOfMemory = ⊥

-- what is left of each script after a reply
replied_scripts : (job : Job) (state : State) (book : Book) (places : List ℕ) (script : List Command) (worker : ℕ) (command : Command) (later : List Command)
    → IsAt job state book places → script ≡ slice_index_or job.scripts worker [] → Some command ≡ slice_get script (slice_index places worker)
    → length places ≡ length job.scripts → worker < length places
    → later ≡ later_commands (slice_index_or state.scripts worker [])
    → (other : ℕ) → slice_index_or (slice_set state.scripts worker later) other []
    ≡ drop (slice_index (slice_set places worker (slice_index places worker + 1)) other) (slice_index_or job.scripts other [])
replied_scripts job state book places script worker command later at is here long below rest other = grind (arith, drop_at, get_or-set_same, get_or-set_other)

-- an attempt at a command is what the definitions answer, whatever commands follow it, where these are the places after
-- a reply
command_taken : (job : Job) (state : State) (book book' : Book) (places moved : List ℕ) (worker : ℕ) (command : Command) (commands : List Command) (attempt : Attempt)
    → IsAt job state book places
    → ((other : ℕ) → slice_index_or (slice_set state.scripts worker (later_commands (slice_index_or state.scripts worker []))) other []
    ≡ drop (slice_index moved other) (slice_index_or job.scripts other []))
    → IsAttempt book book' worker command attempt → HasMemory attempt
    → IsNextAt job (run_next job state worker (command ∷ commands)) book' (placed_by attempt moved places) (given_to attempt)
command_taken job state book book' places moved worker command commands attempt at scripts done some = go attempt done some
  where
    full : (b : Bool) → nat_le job.history (length state.entries) ≡ b → run_next job state worker (command ∷ commands)
        ≡ (if b then record { answer = JournalFull; state = state }
        else attempted state worker command (is_held_back state.memory state.table command (answered state.memory state.table command).reply) (answered state.memory state.table command))
    full b is = rw is refl

    room_left : length book.entries < book.room → nat_le job.history (length state.entries) ≡ false
    room_left short = elim (leb_tells job.history (length state.entries)) [
      | inl over ↦ absurd (let most = over.1 in let room = at.room in let entries = at.entries in omega (arith, short, most, room, ap (λ (xs : List Entry). length xs) entries))
      | inr under ↦ under.0
    ]

    no_room : book.room ≤ length book.entries → nat_le job.history (length state.entries) ≡ true
    no_room past = elim (leb_tells job.history (length state.entries)) [
      | inl over ↦ over.0
      | inr under ↦ absurd (let less = under.1 in let room = at.room in let entries = at.entries in omega (arith, past, less, room, ap (λ (xs : List Entry). length xs) entries))
    ]

    open_room : (held : Bool) → length book.entries < book.room → is_held_back state.memory state.table command (answered state.memory state.table command).reply ≡ held
        → run_next job state worker (command ∷ commands) ≡ attempted state worker command held (answered state.memory state.table command)
    open_room held short is = full false (room_left short) ∙ ap (λ b. attempted state worker command b (answered state.memory state.table command)) is

    go : (attempt : Attempt) → IsAttempt book book' worker command attempt → HasMemory attempt
        → IsNextAt job (run_next job state worker (command ∷ commands)) book' (placed_by attempt moved places) (given_to attempt)
    go (Done reply) done some =
        let outcome = done.answered.outcome in
        let same : answered (memory_of_book book) (table_of_book book) command ≡ answered state.memory state.table command
        = outcome_at (memory_of_book book) state.memory (table_of_book book) state.table command at.memory at.table in
        let free = held_at state (memory_of_book book) (table_of_book book) command reply false at.memory at.table outcome.reply_is done.answered.not_held in
        let whole : run_next job state worker (command ∷ commands) ≡ attempted state worker command false (answered state.memory state.table command)
        = open_room false done.had_room free in
        let reply_is : reply ≡ (answered state.memory state.table command).reply = outcome.reply_is ∙ ap (λ (o : Outcome). o.reply) same in
        subst (λ next. IsNextAt job next book' moved (Replied reply)) (sym whole)
        (record {
          answer_is = ap (λ r. Replied r) reply_is;
          at = record {
            memory = outcome.memory ∙ ap (λ (o : Outcome). o.memory) same;
            table = outcome.table ∙ ap (λ (o : Outcome). o.table) same;
            entries = done.entries ∙ ap (λ (xs : List Entry). xs ++ record { worker = worker; command = command; reply = reply } ∷ []) at.entries
                ∙ ap (λ (r : Reply). state.entries ++ record { worker = worker; command = command; reply = r } ∷ []) reply_is;
            room = done.room ∙ at.room;
            pages = done.answered.pages ∙ at.pages;
            workers = length-set state.scripts worker (later_commands (slice_index_or state.scripts worker [])) ∙ at.workers;
            scripts = scripts;
          };
        })
    go HeldBack done some =
        let held = held_at state (memory_of_book book) (table_of_book book) command (answered (memory_of_book book) (table_of_book book) command).reply true at.memory at.table refl done.1 in
        let whole : run_next job state worker (command ∷ commands) ≡ attempted state worker command true (answered state.memory state.table command)
        = open_room true done.0 held in
        subst (λ next. IsNextAt job next book' places StoreBlocked) (sym whole)
        (record { answer_is = refl; at = subst (λ b. IsAt job state b places) (sym done.2) at })
    go NoRoom done some =
        let whole : run_next job state worker (command ∷ commands) ≡ record { answer = JournalFull; state = state }
        = full true (no_room done.0) in
        subst (λ next. IsNextAt job next book' places JournalFull) (sym whole)
        (record { answer_is = refl; at = subst (λ b. IsAt job state b places) (sym done.1) at })
    go OutOfMemory done some = absurd some

-- a turn with a command left is what the definitions answer
pub turn_taken : (job : Job) (state : State) (book book' : Book) (places : List ℕ) (script : List Command) (worker : ℕ) (command : Command) (attempt : Attempt)
    → IsAt job state book places → script ≡ slice_index_or job.scripts worker [] → Some command ≡ slice_get script (slice_index places worker)
    → length places ≡ length job.scripts → worker < length places → IsAttempt book book' worker command attempt → HasMemory attempt
    → IsNextAt job (answer job state (RunWorker worker)) book' (passed_by attempt places worker) (given_to attempt)
turn_taken job state book book' places script worker command attempt at is here long below done some =
    let commands = drop (slice_index places worker + 1) script in
    let left : slice_index_or state.scripts worker [] ≡ command ∷ commands
    = commands_left _ _ _ _ _ _ at is ∙ drop_at (slice_index places worker) script _ here in
    subst (λ cs. IsNextAt job (run_next job state worker cs) book' (passed_by attempt places worker) (given_to attempt)) (sym left)
    (command_taken _ _ _ _ _ _ _ _ commands _ at (replied_scripts _ _ _ _ _ _ _ _ at is here long below refl) done some)

-- where its text was added, what a turn tells of an attempt is told wherever a job stands
pub turn_told : {E : Type 0} (r : Result (Unit {0}) E) (book book' : Book) (places : List ℕ) (script : List Command) (worker place len : ℕ) (command : Command) (attempt : Attempt)
    (old new : List ℕ) → len ≡ length places → worker < len → place ≡ get_or places worker place → Some command ≡ slice_get script place → IsAttempt book book' worker command attempt
    → HasMemory attempt → OnOk r (new ≡ old ++ answer_text (given_to attempt))
    → OnOk r ((job : Job) (state : State) → IsAt job state book places → len ≡ length job.scripts → script ≡ slice_index_or job.scripts worker []
    → IsTold job (answer job state (RunWorker worker)) book' (passed_by attempt places worker) old new)
turn_told r book book' places script worker place len command attempt old new ok low at_worker here done some added =
    let below : worker < length places = omega (arith, low, ok) in
    on_ok_weaker r (λ text job state at long is. told_at job (answer job state (RunWorker worker)) book' (passed_by attempt places worker) (given_to attempt) old new
    (turn_taken job state book book' places script worker command attempt at is (at_place places script worker place (Some command) below at_worker here) (sym ok ∙ long) below done some) text) added

-- a script that is over stays so
over_still : (scripts : List (List Command)) (worker other : ℕ) → slice_index_or scripts worker [] ≡ []
    → slice_index_or (slice_set scripts worker []) other [] ≡ slice_index_or scripts other []
over_still [] worker other over = refl
over_still (script ∷ scripts) zero zero over = sym over
over_still (script ∷ scripts) zero (suc other) over = refl
over_still (script ∷ scripts) (suc worker) zero over = refl
over_still (script ∷ scripts) (suc worker) (suc other) over = over_still scripts worker other over

-- where no place moves, each stays
none_moved : (attempt : Attempt) (places : List ℕ) → placed_by attempt places places ≡ places
none_moved (Done reply) places = refl
none_moved HeldBack places = refl
none_moved NoRoom places = refl
none_moved OutOfMemory places = refl

-- an attempt of a worker whose script is over, at a command that stands in none, is what the definitions answer
attempt_taken : (job : Job) (state : State) (book book' : Book) (places : List ℕ) (worker : ℕ) (command : Command) (attempt : Attempt)
    → IsAt job state book places → slice_index_or state.scripts worker [] ≡ [] → IsAttempt book book' worker command attempt → HasMemory attempt
    → IsNextAt job (run_next job state worker (command ∷ [])) book' places (given_to attempt)
attempt_taken job state book book' places worker command attempt at over done some =
    let scripts : (other : ℕ) → slice_index_or (slice_set state.scripts worker (later_commands (slice_index_or state.scripts worker []))) other []
    ≡ drop (slice_index places other) (slice_index_or job.scripts other [])
    = λ other. ap (λ commands. slice_index_or (slice_set state.scripts worker (later_commands commands)) other []) over ∙ over_still state.scripts worker other over ∙ at.scripts other in
    subst (λ after. IsNextAt job (run_next job state worker (command ∷ [])) book' after (given_to attempt)) (none_moved attempt places)
    (command_taken job state book book' places places worker command [] attempt at scripts done some)

-- where its text was added, it is told wherever a job stands in which the worker's script is over
pub attempt_told : {E : Type 0} (r : Result (Unit {0}) E) (book book' : Book) (places : List ℕ) (worker : ℕ) (command : Command) (attempt : Attempt) (old new : List ℕ)
    → IsAttempt book book' worker command attempt → HasMemory attempt → OnOk r (new ≡ old ++ answer_text (given_to attempt))
    → OnOk r ((job : Job) (state : State) → IsAt job state book places → slice_index_or state.scripts worker [] ≡ []
    → IsTold job (run_next job state worker (command ∷ [])) book' places old new)
attempt_told r book book' places worker command attempt old new done some added =
    on_ok_weaker r (λ text job state at over. told_at _ _ _ _ _ _ _ (attempt_taken _ _ _ _ _ _ _ _ at over done some) text) added
