-- The address and the length of a live object don't change until the object is freed, and a freed object is never live
-- again.
use Rattle.std.specs.Prelude.{◌≡◌, ◌⊎◌, ℕ, ◌<◌, ◌≤◌, List, [], ◌∷◌, ◌++◌, Some, None, length}
use Rattle.model_memory.specs.Memory.{Memory, Object, empty_memory, next_serial, object_of, root_of}
use Rattle.model_memory.specs.Plain.{Entry, IsLegal, PlainStep, Runs}
use Rattle.model_words.specs.declared.commands.Command.{Command}
use Rattle.model_words.specs.declared.commands.Command.TheVariants.{New, Free}
use Rattle.model_words.specs.declared.commands.Reply.{Reply}
use Rattle.model_words.specs.declared.commands.Reply.TheVariants.{Object as Made, Done}

-- the object of the serial is live, at the address and with `len` bytes
pub record IsAt (m : Memory) (serial address len : ℕ) : Type 0 where
  pub object : Object
  pub live : object_of m serial ≡ Some object
  pub address_is : object.address ≡ address
  pub long : length object.bytes ≡ len

-- the command is a successful `free` of a cell that names the serial, and the serial's object isn't live afterwards
pub record Frees (m : Memory) (serial : ℕ) (command : Command) (reply : Reply) (n : Memory) : Type 0 where
  pub cell : ℕ
  pub command_is : command ≡ Free cell
  pub done : reply ≡ Done
  pub named : root_of m cell ≡ Some serial
  pub gone : object_of n serial ≡ None

-- after each plain step, a live object has its address and its length as before, or the command has freed the object
abbrev pub LiveKeepsAddress : Type 0
LiveKeepsAddress = (m n : Memory) (command : Command) (reply : Reply) (serial address len : ℕ) → PlainStep m command reply n
    → IsAt m serial address len → IsAt n serial address len ⊎ Frees m serial command reply n

-- a plain step never lowers the next serial
abbrev pub SerialsGoUp : Type 0
SerialsGoUp = (m n : Memory) (command : Command) (reply : Reply) → PlainStep m command reply n → next_serial m ≤ next_serial n

-- if a serial is below the next one and its object isn't live, the object isn't live after a plain step either
abbrev pub FreedStaysFreed : Type 0
FreedStaysFreed = (m n : Memory) (command : Command) (reply : Reply) (serial : ℕ) → PlainStep m command reply n → serial < next_serial m
    → object_of m serial ≡ None → object_of n serial ≡ None

-- one of the later entries frees the object of the serial. The later entries run after the earlier ones, which run from
-- the memory `m`
pub record IsFreedAfter (m : Memory) (earlier : List Entry) (serial : ℕ) (later : List Entry) : Type 0 where
  pub between : List Entry
  pub entry : Entry
  pub rest : List Entry
  pub here : later ≡ between ++ entry ∷ rest
  pub before : Memory
  pub after : Memory
  pub runs : Runs m (earlier ++ between) before
  pub step : PlainStep before entry.command entry.reply after
  pub frees : Frees before serial entry.command entry.reply after

-- the object of the serial is live at this address with this length, or the object isn't live and one of the later
-- entries has freed it
abbrev pub IsKeptOrFreed : Memory → List Entry → ℕ → ℕ → ℕ → List Entry → Memory → Type 0
IsKeptOrFreed m earlier serial address len later n =
    IsAt n serial address len ⊎ ((object_of n serial ≡ None) × IsFreedAfter m earlier serial later)

-- if entries run from one memory to another, a live object has its address and its length afterwards, or isn't live
-- because one of the entries has freed it
abbrev pub RunsKeepAddress : Type 0
RunsKeepAddress = (m n : Memory) (entries : List Entry) (serial address len : ℕ) → Runs m entries n → IsAt m serial address len
    → IsKeptOrFreed m [] serial address len entries n

-- an object that a legal history made has the returned address and the requested length at the end, or isn't live
-- because a later entry has freed it. This holds at each point after the `new`, because the beginnings of a legal
-- history are legal
abbrev pub MadeKeepsAddress : Type 0
MadeKeepsAddress = (before after : List Entry) (worker cell len word serial address : ℕ) (end : Memory)
    → IsLegal (before ++ record { worker = worker; command = New cell len word; reply = Made serial address } ∷ after) end
    → IsKeptOrFreed empty_memory (before ++ record { worker = worker; command = New cell len word; reply = Made serial address } ∷ []) serial address len
    after end

-- if a legal history makes an object and a later entry frees it, the object isn't live at the end
abbrev pub FreedIsGone : Type 0
FreedIsGone = (before after : List Entry) (worker cell len word serial address : ℕ) (end : Memory)
    → IsLegal (before ++ record { worker = worker; command = New cell len word; reply = Made serial address } ∷ after) end
    → IsFreedAfter empty_memory (before ++ record { worker = worker; command = New cell len word; reply = Made serial address } ∷ []) serial after
    → object_of end serial ≡ None

-- if a history is legal, each of its beginnings is legal, and the remaining entries run from the end of that beginning
abbrev pub BeginningsAreLegal : Type 0
BeginningsAreLegal = (before after : List Entry) (end : Memory) → IsLegal (before ++ after) end
    → (m : Memory) × IsLegal before m × Runs m after end
