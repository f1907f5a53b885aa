-- A seat: the answers that one mutator thread was given.
use Rattle.std.specs.Prelude.{◌≡◌, ℕ, suc, ◌<◌, ◌≤◌, List, [], ◌∷◌, ◌++◌, Option, None, is_some, length, map, refl}
use Rattle.std.specs.Coded.{Coded, code_by, coded×, coded_list, coded_option, coded_ℕ}
use Rattle.std.specs.List.{All}
use Rattle.model_words.specs.Commands.{IsInRange}
use Rattle.model_words.specs.declared.commands.Command.{Command}
use Rattle.model_words.specs.declared.commands.Command.TheVariants.{New, Put, Get, Free, Alias, Addr, Peek, Poke, Copy}
use Rattle.model_words.specs.declared.commands.Reply.{Reply}
use Rattle.mesh_mutator.specs.Codes.{command_code, reply_code}
use Rattle.mesh_mutator.specs.declared.attempts.Attempt.{Attempt}
use Rattle.mesh_mutator.specs.declared.attempts.Attempt.TheVariants.{Blocked, Done, HistoryFull, OutOfMemory}
use Rattle.model_memory.specs.Reads.{Kept, is_read}

-- a seat: its number, its calls, and how many calls there is room for
pub record Seat : Type 0 where
  pub number : ℕ
  pub calls : List Kept
  pub room : ℕ

-- a kept call is stored as its parts
abbrev pub kept_code : Coded Kept
kept_code = code_by (Command × (Reply × Option ℕ)) (coded× command_code (coded× reply_code (coded_option coded_ℕ)))
    (λ k. (k.command, (k.reply, k.seen))) (λ p. record { command = p.0; reply = p.1.0; seen = p.1.1 }) (λ _. refl)

-- a seat is stored as its parts
abbrev pub seat_code : Coded Seat
seat_code = code_by (ℕ × (List Kept × ℕ)) (coded× coded_ℕ (coded× (coded_list kept_code) coded_ℕ))
    (λ s. (s.number, (s.calls, s.room))) (λ p. record { number = p.0; calls = p.1.0; room = p.1.1 }) (λ _. refl)

-- a kept call has seen a length of the journal if and only if it is a read, and its command is in range
abbrev pub IsKept : Kept → Type 0
IsKept kept = (is_some kept.seen ≡ is_read kept.command) × IsInRange kept.command

-- a seat has room for its calls, and `IsKept` holds of each
pub record IsSeat (s : Seat) : Type 0 where
  pub short : length s.calls ≤ s.room
  pub kept : All IsKept s.calls

-- the call is added to the seat, with a length of the journal if and only if it is a read. Nothing else of the seat
-- changes
abbrev pub Keeps : Seat → Seat → Command → Reply → Type 0
Keeps old new command reply = (seen : Option ℕ) × (new ≡ record old { calls = old.calls ++ record { command = command; reply = reply; seen = seen } ∷ [] })
    × (is_some seen ≡ is_read command)

-- the seat with this call added
abbrev pub noted : Seat → Command → Reply → Option ℕ → Seat
noted seat command reply seen = record seat { calls = seat.calls ++ record { command = command; reply = reply; seen = seen } ∷ [] }

-- the seat after a recorded attempt: if the attempt is done, its call is added. Otherwise the seat is unchanged
abbrev pub IsNoted : Seat → Seat → Command → Attempt → Type 0
IsNoted old new command (Done reply) = new ≡ noted old command reply None
IsNoted old new command Blocked = new ≡ old
IsNoted old new command HistoryFull = new ≡ old
IsNoted old new command OutOfMemory = new ≡ old

-- the command stores bytes, so a read-only page may block it
abbrev pub IsStore : Command → Type 0
IsStore (New cell len word) = ⊥
IsStore (Put cell off bytes) = Unit {0}
IsStore (Get cell off len) = ⊥
IsStore (Free cell) = ⊥
IsStore (Alias to from) = ⊥
IsStore (Addr cell) = ⊥
IsStore (Peek addr) = ⊥
IsStore (Poke addr byte) = Unit {0}
IsStore (Copy to to_off from from_off len) = Unit {0}

-- the command makes an object, so it may run out of memory
abbrev pub IsNew : Command → Type 0
IsNew (New cell len word) = Unit {0}
IsNew (Put cell off bytes) = ⊥
IsNew (Get cell off len) = ⊥
IsNew (Free cell) = ⊥
IsNew (Alias to from) = ⊥
IsNew (Addr cell) = ⊥
IsNew (Peek addr) = ⊥
IsNew (Poke addr byte) = ⊥
IsNew (Copy to to_off from from_off len) = ⊥

-- the seat after an attempt: if the attempt is done, the seat had room and its call is added. Otherwise the seat is
-- unchanged. Only a store is blocked, and only a `new` runs out of memory
abbrev pub IsTaken : Seat → Seat → Command → Attempt → Type 0
IsTaken old new command (Done reply) = (length old.calls < old.room) × Keeps old new command reply
IsTaken old new command Blocked = (new ≡ old) × IsStore command
IsTaken old new command HistoryFull = new ≡ old
IsTaken old new command OutOfMemory = (new ≡ old) × IsNew command

-- empty seats, numbered from `k` on, each with room for its count of calls
abbrev pub empty_seats : ℕ → List ℕ → List Seat
empty_seats k [] = []
empty_seats k (count ∷ counts) = record { number = k; calls = []; room = count } ∷ empty_seats (suc k) counts

abbrev pub IsEmptySeats : ℕ → List ℕ → List Seat → Type 0
IsEmptySeats k counts seats = seats ≡ empty_seats k counts

-- the calls of each seat
abbrev pub calls_of_seats : List Seat → List (List Kept)
calls_of_seats seats = map (λ seat. seat.calls) seats

-- the number of each seat
abbrev pub numbers_of : List Seat → List ℕ
numbers_of seats = map (λ seat. seat.number) seats
