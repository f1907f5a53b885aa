-- What an attempt leaves of a book.
use Rattle.std.proofs.Common.{◌≡◌, ℕ, ◌+◌, ◌<◌, ◌≤◌, [], ◌∷◌, ◌++◌, length, subst, refl, sym, arith}
use Rattle.std.proofs.Math.ListN.{length-append}
use Rattle.model_jobs.specs.JobLaws.{AnsweredIsStep}
use Rattle.model_jobs.specs.Jobs.{answered}
use Rattle.model_memory.specs.HistoryLaws.{LegalGoesOn}
use Rattle.model_memory.specs.Memory.{Memory}
use Rattle.model_memory.specs.Plain.{Entry, PlainStep}
use Rattle.model_heap.specs.Sound.{IsTied}
use Rattle.model_words.specs.declared.commands.Command.{Command}
use Rattle.model_words.specs.declared.commands.Reply.{Reply}
use Rattle.mesh_mutator.specs.Book.{AddsEntry, AreRooted, Book, Cells, IsAttempt, IsBook, IsPerformed, memory_in, memory_of_book}
use Rattle.mesh_mutator.specs.declared.attempts.Attempt.{Attempt}
use Rattle.mesh_mutator.specs.declared.attempts.Attempt.TheVariants.{Blocked, Done, HistoryFull, OutOfMemory}
use Rattle.mesh_steps.specs.Heap.{Heap, IsHeap, plain_of, table_of}

-- the entry of an answered command
abbrev pub entry_of : ℕ → Command → Reply → Entry
entry_of worker command reply = record { worker = worker; command = command; reply = reply }

-- the book after an answered command
abbrev pub answered_book : Book → Heap → Cells → Entry → Book
answered_book b h cells entry = record { heap = h; cells = cells; entries = b.entries ++ entry ∷ []; room = b.room }

-- the memory is tied to the table with any roots
pub IsTied_roots : (h : Heap) (cells : Cells) → IsTied (plain_of h) (table_of h) → IsTied (memory_in h cells) (table_of h)
IsTied_roots h cells tied = record {
  slots = λ number k group slot there filled. let live = tied.slots number k group slot there filled in
      record { object = live.object; live = live.live; address = live.address; len = live.len };
  objects = tied.objects;
}

-- a book is known by its heap and cells where the rest is the same
book_is : (b : Book) (h : Heap) (cells : Cells) → h ≡ b.heap → cells ≡ b.cells
    → ◌≡◌ {A = Book} (record { heap = h; cells = cells; entries = b.entries; room = b.room }) b
book_is b h cells same_heap same_cells = rw (same_heap, same_cells) refl

-- a command that was answered and recorded leaves a book
pub IsBook_answered : (b : Book) (h : Heap) (cells : Cells) (worker : ℕ) (command : Command) (reply : Reply) → AnsweredIsStep → LegalGoesOn → IsHeap b.heap
    → IsBook b → length b.entries < b.room → IsPerformed b.heap h b.cells cells command (Done reply) → AreRooted h cells → length cells ≡ 256
    → h.next_serial ≤ b.heap.next_serial + 1 → IsBook (answered_book b h cells (entry_of worker command reply))
IsBook_answered b h cells worker command reply steps goes_on heap book short done rooted long next =
    let m : Memory = memory_of_book b in
    let step : PlainStep m command (answered m (table_of b.heap) command).reply (answered m (table_of b.heap) command).memory
    = steps m (table_of b.heap) command heap.sound (IsTied_roots b.heap b.cells heap.tied) in
    let outcome = done.outcome in
    let step' : PlainStep m command reply (memory_in h cells)
    = subst (λ (r : Reply). PlainStep m command r (memory_in h cells)) (sym outcome.reply_is)
    (subst (λ (n : Memory). PlainStep m command (answered m (table_of b.heap) command).reply n) (sym outcome.memory) step) in
    record {
      cells = long;
      rooted = rooted;
      legal = goes_on b.entries m (memory_in h cells) (entry_of worker command reply) book.legal step';
      short = rw (length-append b.entries (entry_of worker command reply ∷ [])) (omega (arith, short));
      limit = book.limit;
      serials = rw (length-append b.entries (entry_of worker command reply ∷ [])) (let more = book.serials in omega (arith, more, next));
    }

-- it is what the attempt comes to
pub attempt_answered : (b : Book) (h : Heap) (cells : Cells) (worker : ℕ) (command : Command) (reply : Reply) (attempt : Attempt) → length b.entries < b.room
    → attempt ≡ Done reply → IsPerformed b.heap h b.cells cells command attempt
    → IsAttempt b (answered_book b h cells (entry_of worker command reply)) worker command attempt
attempt_answered b h cells worker command reply attempt short is done =
    subst (λ (a : Attempt). IsAttempt b (answered_book b h cells (entry_of worker command reply)) worker command a) (sym is)
    (record { had_room = short; answered = subst (λ (a : Attempt). IsPerformed b.heap h b.cells cells command a) is done; entries = refl; room = refl })

-- an attempt that isn't recorded leaves heap and cells as they were
pub unrecorded_same : (b : Book) (h : Heap) (cells : Cells) (command : Command) (attempt : Attempt) → ((reply : Reply) → attempt ≡ Done reply → ⊥)
    → IsPerformed b.heap h b.cells cells command attempt → record { heap = h; cells = cells; entries = b.entries; room = b.room } ≡ b
unrecorded_same b h cells command (Done reply) not_done done = absurd (not_done reply refl)
unrecorded_same b h cells command Blocked not_done done = book_is b h cells done.1 done.2
unrecorded_same b h cells command HistoryFull not_done done = absurd done
unrecorded_same b h cells command OutOfMemory not_done done = book_is b h cells done.1 done.2

-- what it comes to
pub attempt_unrecorded : (b : Book) (h : Heap) (cells : Cells) (worker : ℕ) (command : Command) (attempt : Attempt) → length b.entries < b.room
    → ((reply : Reply) → attempt ≡ Done reply → ⊥) → IsPerformed b.heap h b.cells cells command attempt
    → IsAttempt b (record { heap = h; cells = cells; entries = b.entries; room = b.room }) worker command attempt
attempt_unrecorded b h cells worker command (Done reply) short not_done done = absurd (not_done reply refl)
attempt_unrecorded b h cells worker command Blocked short not_done done = (short, done.0, book_is b h cells done.1 done.2)
attempt_unrecorded b h cells worker command HistoryFull short not_done done = absurd done
attempt_unrecorded b h cells worker command OutOfMemory short not_done done = (short, done.0, book_is b h cells done.1 done.2)

-- an attempt adds its entry where it is done, and else leaves the book
pub adds_entry : (old new : Book) (worker : ℕ) (command : Command) (attempt : Attempt) → IsAttempt old new worker command attempt
    → AddsEntry old new worker command attempt
adds_entry old new worker command (Done reply) is = is.entries
adds_entry old new worker command Blocked is = is.2
adds_entry old new worker command HistoryFull is = is.1
adds_entry old new worker command OutOfMemory is = is.2

-- an attempt with room in the journal doesn't find it full
pub not_full : (b : Book) (h : Heap) (cells : Cells) (command : Command) (attempt : Attempt) → IsPerformed b.heap h b.cells cells command attempt
    → attempt ≡ HistoryFull → ⊥
not_full b h cells command attempt done is = subst (λ (a : Attempt). IsPerformed b.heap h b.cells cells command a) is done
