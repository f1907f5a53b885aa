-- Reads, which are in no journal: the place of each read in the history, and when a read is wrong.
use Rattle.std.specs.Prelude.{◌≡◌, ℕ, suc, ◌<◌, Bool, true, false, ◌||◌, if◌then◌else◌, nat_eq, nat_lt, nat_le, List, [], ◌∷◌, ◌++◌, Option, Some, None, Ok, Err, Result, length, take, slice_get, slice_index_or}
use Rattle.std.specs.List.{list_any}
use Rattle.model_memory.specs.Memory.{Memory, empty_memory}
use Rattle.model_memory.specs.Plain.{Entry, made, plain}
use Rattle.model_memory.specs.Seats.{Call}
use Rattle.model_words.specs.declared.commands.Command.{Command}
use Rattle.model_words.specs.declared.commands.Command.TheVariants.{New, Put, Get, Free, Alias, Addr, Peek, Poke, Copy}
use Rattle.model_words.specs.declared.commands.Reply.{Reply}
use Rattle.model_words.specs.declared.commands.Reply.TheVariants.{Object as Made, Refused}
use Rattle.model_words.specs.declared.refusals.Refusal.{Refusal}

-- whether the command only reads
abbrev pub is_read : Command → Bool
is_read (Get cell off len) = true
is_read (Addr cell) = true
is_read (Peek addr) = true
is_read command = false

-- a call in a seat: the command, the reply and, if the command is a read, the length of the journal that the read saw
pub record Kept : Type 0 where
  pub command : Command
  pub reply : Reply
  pub seen : Option ℕ

-- the call without the length
abbrev pub call_of : Kept → Call
call_of kept = record { command = kept.command; reply = kept.reply }

-- whether there is a length, and it is `n`
abbrev pub is_length : ℕ → Option ℕ → Bool
is_length n None = false
is_length n (Some seen) = nat_eq seen n

-- the calls with this call before them, or without it if it saw a length, as reads do
abbrev pub recorded_or : Option ℕ → Call → List Call → List Call
recorded_or None call calls = call ∷ calls
recorded_or (Some seen) call calls = calls

-- the recorded calls: all calls but the reads, which saw a length
abbrev pub recorded : List Kept → List Call
recorded [] = []
recorded (kept ∷ calls) = recorded_or kept.seen (call_of kept) (recorded calls)

-- the lengths with this length before them, if there is one
abbrev pub seen_or : Option ℕ → List ℕ → List ℕ
seen_or None lengths = lengths
seen_or (Some seen) lengths = seen ∷ lengths

-- the lengths that the reads saw
abbrev pub lengths_seen : List Kept → List ℕ
lengths_seen [] = []
lengths_seen (kept ∷ calls) = seen_or kept.seen (lengths_seen calls)

-- the reads of a worker that saw `n` entries, in the order of the worker's calls
abbrev pub reads_at : ℕ → ℕ → List Kept → List Entry
reads_at n worker [] = []
reads_at n worker (kept ∷ calls) =
    if is_length n kept.seen then record { worker = worker; command = kept.command; reply = kept.reply } ∷ reads_at n worker calls
    else reads_at n worker calls

-- the reads of all seats that saw `n` entries, the lower seats first; the first seat in the list has the number
-- `worker`
abbrev pub all_reads_at : ℕ → ℕ → List (List Kept) → List Entry
all_reads_at n worker [] = []
all_reads_at n worker (calls ∷ seats) = reads_at n worker calls ++ all_reads_at n (suc worker) seats

-- the journal's entries from index `n` on, with the reads between them: each read comes after exactly the entries that
-- it saw
abbrev pub built_from : ℕ → List (List Kept) → List Entry → List Entry
built_from n seats [] = all_reads_at n 0 seats
built_from n seats (entry ∷ entries) = all_reads_at n 0 seats ++ entry ∷ built_from (suc n) seats entries

-- the history built from the journal and the seats
abbrev pub built : List (List Kept) → List Entry → List Entry
built seats entries = built_from 0 seats entries

-- the indices of a worker's entries; the first entry in the list has the index `k`
abbrev pub places_from : ℕ → ℕ → List Entry → List ℕ
places_from k worker [] = []
places_from k worker (entry ∷ entries) =
    if nat_eq entry.worker worker then k ∷ places_from (suc k) worker entries else places_from (suc k) worker entries

-- whether there is an index, and it is below the length
abbrev pub is_passed : Option ℕ → ℕ → Bool
is_passed None n = false
is_passed (Some place) n = nat_lt place n

-- whether a read that saw `n` entries can't come after these calls of its seat: `n` is below the length that an earlier
-- read saw, not above the index of an earlier recorded call, above the index of the next recorded call, or above the
-- journal's length
abbrev pub is_out_of_place : List ℕ → ℕ → List Kept → ℕ → Bool
is_out_of_place places total before n =
    list_any (λ seen. nat_lt n seen) (lengths_seen before)
    || list_any (λ place. nat_le n place) (take (length (recorded before)) places)
    || is_passed (slice_get places (length (recorded before))) n
    || nat_lt total n

-- the memory of a result, or the memory before if the result is a refusal
abbrev pub memory_or : Memory → Result (Reply × Memory) Refusal → Memory
memory_or m (Ok x) = x.1
memory_or m (Err refusal) = m

-- the memory after a `new` with this reply
abbrev pub made_by : Memory → ℕ → ℕ → Reply → Memory
made_by m cell len (Made serial address) = made m cell len address
made_by m cell len _ = m

-- the memory after a command with this reply
abbrev pub left_by : Memory → Command → Reply → Memory
left_by m (New cell len word) reply = made_by m cell len reply
left_by m command reply = memory_or m (plain m 0 command)

-- the memory after the commands of the entries
abbrev pub memory_after : Memory → List Entry → Memory
memory_after m [] = m
memory_after m (entry ∷ entries) = memory_after (left_by m entry.command entry.reply) entries

-- the reply of a result, or its refusal as a reply
abbrev pub reply_in : Result (Reply × Memory) Refusal → Reply
reply_in (Ok x) = x.0
reply_in (Err refusal) = Refused refusal

-- the reply of the reference memory to a read
abbrev pub read_reply : Memory → Command → Reply
read_reply m command = reply_in (plain m 0 command)

-- if call `i` of a seat is a read, the call is in its place and has the reference memory's reply after the entries that
-- the call saw
abbrev pub IsRight : List Entry → List ℕ → List Kept → ℕ → Type 0
IsRight entries places calls i = (kept : Kept) (n : ℕ) → slice_get calls i ≡ Some kept → kept.seen ≡ Some n
    → (is_out_of_place places (length entries) (take i calls) n ≡ false)
    × (kept.reply ≡ read_reply (memory_after empty_memory (take n entries)) kept.command)

-- the calls of seat `w`
abbrev pub kept_by : List (List Kept) → ℕ → List Kept
kept_by seats w = slice_index_or seats w []

-- call `i` of seat `w` is a read that is not right; it is the first such call of the first such seat
pub record ReadDiffers (seats : List (List Kept)) (entries : List Entry) (w i : ℕ) : Type 0 where
  pub right_below : (v : ℕ) → v < w → (k : ℕ) → IsRight entries (places_from 0 v entries) (kept_by seats v) k
  pub right_before : (k : ℕ) → k < i → IsRight entries (places_from 0 w entries) (kept_by seats w) k
  pub wrong : IsRight entries (places_from 0 w entries) (kept_by seats w) i → ⊥

-- all reads of all seats are right
abbrev pub AreRight : List (List Kept) → List Entry → Type 0
AreRight seats entries = (w i : ℕ) → IsRight entries (places_from 0 w entries) (kept_by seats w) i

-- if a call saw a length, its command is a read
abbrev pub is_marked : Kept → Type 0
is_marked kept = (n : ℕ) → kept.seen ≡ Some n → is_read kept.command ≡ true
