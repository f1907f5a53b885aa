-- Seats: the calls of each mutator thread with their replies, and how the calls may differ from the one history. This
-- project's own choice.
use Rattle.std.specs.Prelude.{ℕ, if◌then◌else◌, nat_eq, List, [], ◌∷◌, ◌≡◌, ◌≢◌, ◌<◌, Bool, false, not, ◌||◌, nat_lt, nat_le, Option, Some, None, length, find, slice_get, slice_index_or}
use Rattle.std.specs.List.{list_any, range_with_len}
use Rattle.model_memory.specs.Plain.{Entry}
use Rattle.model_words.specs.declared.commands.Command.{Command}
use Rattle.model_words.specs.declared.commands.Reply.{Reply}

-- a seat's call: a command and its reply
pub record Call : Type 0 where
  pub command : Command
  pub reply : Reply

-- the calls of a worker's entries, in their order
abbrev pub calls_of : ℕ → List Entry → List Call
calls_of worker [] = []
calls_of worker (entry ∷ entries) =
    if nat_eq entry.worker worker then record { command = entry.command; reply = entry.reply } ∷ calls_of worker entries else calls_of worker entries

-- whether there is a number, and it is `k`
abbrev pub is_number : ℕ → Option ℕ → Bool
is_number k None = false
is_number k (Some number) = nat_eq number k

-- whether the seat at place `k` has the number `k`
abbrev pub has_seat : List ℕ → ℕ → Bool
has_seat numbers k = is_number k (slice_get numbers k)

-- whether there are more seats than `count`, or an entry of a worker whose number isn't below `count`
abbrev pub has_stranger : ℕ → List ℕ → List Entry → Bool
has_stranger count numbers entries = nat_lt count (length numbers) || list_any (λ entry. nat_le count entry.worker) entries

-- the missing place: the given place if there is one, else `count` if there are strangers
abbrev pub missing_or : ℕ → Bool → Option ℕ → Option ℕ
missing_or count strangers (Some k) = Some k
missing_or count strangers None = if strangers then Some count else None

-- the missing seat: the lowest place below `count` without a seat of the place's number, else `count` if there are
-- strangers
abbrev pub missing_seat : ℕ → List ℕ → List Entry → Option ℕ
missing_seat count numbers entries =
    missing_or count (has_stranger count numbers entries) (find (λ k. not (has_seat numbers k)) (range_with_len 0 count))

-- `i` is the first place at which the two lists of calls differ; one list may have no call there
pub record DifferFirstAt (theirs ours : List Call) (i : ℕ) : Type 0 where
  pub same_before : (k : ℕ) → k < i → slice_get theirs k ≡ slice_get ours k
  pub other : slice_get theirs i ≢ slice_get ours i

-- call `i` of seat `w` is not entry `i` of worker `w`; it is the first such call of the first such seat
pub record SeatDiffers (seats : List (List Call)) (entries : List Entry) (w i : ℕ) : Type 0 where
  pub same_below : (v : ℕ) → v < w → slice_index_or seats v [] ≡ calls_of v entries
  pub first : DifferFirstAt (slice_index_or seats w []) (calls_of w entries) i

-- the calls of each seat below the count are the calls of its worker's entries
abbrev pub AreSettled : ℕ → List (List Call) → List Entry → Type 0
AreSettled count seats entries = (w : ℕ) → w < count → slice_index_or seats w [] ≡ calls_of w entries

-- the commands of a worker's entries, in their order
abbrev pub commands_of : ℕ → List Entry → List Command
commands_of worker [] = []
commands_of worker (entry ∷ entries) =
    if nat_eq entry.worker worker then entry.command ∷ commands_of worker entries else commands_of worker entries
