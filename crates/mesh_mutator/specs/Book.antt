-- A book: a heap with its root cells and the journal of answered commands, and the effect of an attempt at a command.
use Rattle.std.specs.Prelude.{◌≡◌, ◌≢◌, ℕ, ◌<◌, ◌≤◌, true, false, List, [], ◌∷◌, ◌++◌, length, map, slice_index_or, Option, Some, None, Ok, refl}
use Rattle.std.specs.Option.{option_map}
use Rattle.std.specs.Coded.{Coded, code_by, coded×, coded_list, coded_option, coded_ℕ}
use Rattle.model_jobs.specs.Jobs.{Outcome, answered, is_held_back}
use Rattle.model_words.specs.Replies.{is_refusal}
use Rattle.model_memory.specs.Memory.{Memory, Object, object_of}
use Rattle.model_memory.specs.Plain.{Entry, Follows, IsLegal, named_by, plain}
use Rattle.model_heap.specs.Table.{Table}
use Rattle.model_words.specs.declared.commands.Command.{Command}
use Rattle.model_words.specs.declared.commands.Command.TheVariants.{Addr, Alias, Copy, Free, Get, New, Peek, Poke, Put}
use Rattle.model_words.specs.declared.commands.Reply.{Reply}
use Rattle.model_words.specs.declared.commands.Reply.TheVariants.{Done as ReplyDone, Refused as ReplyRefused}
use Rattle.mesh_mutator.specs.Codes.{entry_code, ref_code}
use Rattle.mesh_steps.specs.declared.answers.Stored.{Stored}
use Rattle.mesh_steps.specs.declared.answers.Stored.TheVariants.{Blocked as StoreBlocked, Done as StoreDone, Refused as StoreRefused}
use Rattle.mesh_mutator.specs.declared.attempts.Attempt.{Attempt}
use Rattle.mesh_mutator.specs.declared.attempts.Attempt.TheVariants.{Blocked, Done, HistoryFull, OutOfMemory}
use Rattle.mesh_steps.specs.Heap.{HasAsManyPages, Heap, NeedsSpan, arena_of, heap_code, map_of, memory_of, plain_of, table_of}
use Rattle.mesh_steps.specs.declared.answers.Ref.{Ref}

-- the references in the root cells
abbrev pub Cells : Type 0
Cells = List (Option Ref)

-- the serial of a reference
abbrev pub serial_of : Ref → ℕ
serial_of object = object.serial

-- the serials in the cells
abbrev pub serials_of : Cells → List (Option ℕ)
serials_of cells = map (option_map serial_of) cells

-- the reference in a cell, or none
abbrev pub cell_at : Cells → ℕ → Option Ref
cell_at cells cell = slice_index_or cells cell None

-- the reference memory that heap and cells mean
abbrev pub memory_in : Heap → Cells → Memory
memory_in h cells = memory_of h (serials_of cells)

-- each reference in a cell is of an object that was made. If the object is live, it is at the reference's address
abbrev pub AreRooted : Heap → Cells → Type 0
AreRooted h cells = (cell : ℕ) (object : Ref) → cell_at cells cell ≡ Some object
    → (object.serial < h.next_serial) × ((live : Object) → object_of (plain_of h) object.serial ≡ Some live → live.address ≡ object.addr)

-- reply, heap and cells are as the outcome says
pub record IsOutcome (h : Heap) (cells : Cells) (done : Outcome) (reply : Reply) : Type 0 where
  pub reply_is : reply ≡ done.reply
  pub memory : memory_in h cells ≡ done.memory
  pub table : table_of h ≡ done.table

-- the command is a `new` that needs a new span, for which there is room
abbrev pub IsNewForSpan : Heap → Command → Type 0
IsNewForSpan h (New cell len word) = NeedsSpan h len word
IsNewForSpan h command = ⊥

-- the cell in which a command stores a reference
abbrev pub stored_cell : Command → Option ℕ
stored_cell (New cell len word) = Some cell
stored_cell (Alias to from) = Some to
stored_cell command = None

-- what a command leaves unchanged in the heap, whatever its answer: a read or an `alias` everything, a `free` all pages
abbrev pub KeepsHeap : Command → Heap → Heap → Type 0
KeepsHeap (New cell len word) h h' = Unit {0}
KeepsHeap (Put cell off bytes) h h' = Unit {0}
KeepsHeap (Get cell off len) h h' = h' ≡ h
KeepsHeap (Free cell) h h' = (arena_of h' ≡ arena_of h) × (map_of h' ≡ map_of h)
KeepsHeap (Alias to from) h h' = h' ≡ h
KeepsHeap (Addr cell) h h' = h' ≡ h
KeepsHeap (Peek addr) h h' = h' ≡ h
KeepsHeap (Poke addr byte) h h' = Unit {0}
KeepsHeap (Copy to to_off from from_off len) h h' = Unit {0}

-- an answered command isn't blocked, and changes heap and cells as defined. If it is refused, it changes nothing
pub record IsAnswered (h h' : Heap) (cells cells' : Cells) (command : Command) (reply : Reply) : Type 0 where
  pub outcome : IsOutcome h' cells' (answered (memory_in h cells) (table_of h) command) reply
  pub not_held : is_held_back (memory_in h cells) (table_of h) command reply ≡ false
  pub refused : is_refusal reply ≡ true → (h' ≡ h) × (cells' ≡ cells)
  pub other_cells : (cell : ℕ) → stored_cell command ≢ Some cell → cell_at cells' cell ≡ cell_at cells cell
  pub kept : KeepsHeap command h h'
  pub pages : HasAsManyPages h h'

-- the effect of an attempt at a command on heap and cells
abbrev pub IsPerformed : Heap → Heap → Cells → Cells → Command → Attempt → Type 0
IsPerformed h h' cells cells' command (Done reply) = IsAnswered h h' cells cells' command reply
IsPerformed h h' cells cells' command Blocked =
    (is_held_back (memory_in h cells) (table_of h) command (answered (memory_in h cells) (table_of h) command).reply ≡ true)
    × (h' ≡ h) × (cells' ≡ cells)
IsPerformed h h' cells cells' command HistoryFull = ⊥
IsPerformed h h' cells cells' command OutOfMemory = IsNewForSpan h command × (h' ≡ h) × (cells' ≡ cells)

-- a book: heap, cells, the answered commands, and the capacity of the journal
pub record Book : Type 0 where
  pub heap : Heap
  pub cells : Cells
  pub entries : List Entry
  pub room : ℕ

-- a book is stored as its parts
abbrev pub book_code : Coded Book
book_code =
    code_by (Heap × (Cells × (List Entry × ℕ))) (coded× heap_code (coded× (coded_list (coded_option ref_code)) (coded× (coded_list entry_code) coded_ℕ)))
    (λ b. (b.heap, (b.cells, (b.entries, b.room)))) (λ p. record { heap = p.0; cells = p.1.0; entries = p.1.1.0; room = p.1.1.1 }) (λ _. refl)

-- the reference memory that a book means
abbrev pub memory_of_book : Book → Memory
memory_of_book b = memory_in b.heap b.cells

-- the table of a book
abbrev pub table_of_book : Book → Table
table_of_book b = table_of b.heap

-- the journal is a legal history that ends in the memory that the book means, and is within its capacity, which is at
-- most 65,536. There are 256 cells, and each reference in a cell is of an object that was made
pub record IsBook (b : Book) : Type 0 where
  pub cells : length b.cells ≡ 256
  pub rooted : AreRooted b.heap b.cells
  pub legal : IsLegal b.entries (memory_of_book b)
  pub short : length b.entries ≤ b.room
  pub limit : b.room ≤ 65536
  pub serials : b.heap.next_serial ≤ length b.entries

-- the journal had room, the command was answered, and its entry is the only new one
pub record IsRecorded (old new : Book) (worker : ℕ) (command : Command) (reply : Reply) : Type 0 where
  pub had_room : length old.entries < old.room
  pub answered : IsAnswered old.heap new.heap old.cells new.cells command reply
  pub entries : new.entries ≡ old.entries ++ record { worker = worker; command = command; reply = reply } ∷ []
  pub room : new.room ≡ old.room

-- the effect of a worker's attempt: if it is done, it is recorded with its answer. Otherwise nothing changes
abbrev pub IsAttempt : Book → Book → ℕ → Command → Attempt → Type 0
IsAttempt old new worker command (Done reply) = IsRecorded old new worker command reply
IsAttempt old new worker command Blocked =
    (length old.entries < old.room)
    × (is_held_back (memory_of_book old) (table_of_book old) command (answered (memory_of_book old) (table_of_book old) command).reply ≡ true)
    × (new ≡ old)
IsAttempt old new worker command HistoryFull = (old.room ≤ length old.entries) × (new ≡ old)
IsAttempt old new worker command OutOfMemory = (length old.entries < old.room) × IsNewForSpan old.heap command × (new ≡ old)

-- if the attempt is done, this entry was added, and no other. Otherwise the book is unchanged
abbrev pub AddsEntry : Book → Book → ℕ → Command → Attempt → Type 0
AddsEntry old new worker command (Done reply) =
    new.entries ≡ old.entries ++ record { worker = worker; command = command; reply = reply } ∷ []
AddsEntry old new worker command Blocked = new ≡ old
AddsEntry old new worker command HistoryFull = new ≡ old
AddsEntry old new worker command OutOfMemory = new ≡ old

-- the reply is the reference memory's to a command that changes nothing
abbrev pub IsLooked : Heap → Cells → Command → Reply → Type 0
IsLooked h cells command reply = Follows (plain (memory_in h cells) 0 command) (memory_in h cells) reply (memory_in h cells)

-- the cell has this reference, and it names a live object
pub record IsNamedBy (h : Heap) (cells : Cells) (cell : ℕ) (object : Ref) : Type 0 where
  pub held : cell_at cells cell ≡ Some object
  pub live : Object
  pub named : named_by (memory_in h cells) cell ≡ Ok (record { serial = object.serial; object = live })
  pub address : live.address ≡ object.addr

-- the result of a worker's attempt, by the result of its store
abbrev pub attempt_of : Stored → Attempt
attempt_of StoreDone = Done ReplyDone
attempt_of StoreBlocked = Blocked
attempt_of (StoreRefused refusal) = Done (ReplyRefused refusal)
