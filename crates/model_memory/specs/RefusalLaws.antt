-- When each refusal of a command in the reference memory holds, and that a command returns the lowest refusal that
-- holds.
use Rattle.std.specs.Prelude.{◌≡◌, ◌⊎◌, ℕ, ◌+◌, ◌<◌, false, Some, None, length}
use Rattle.model_memory.specs.Memory.{Memory, Object, has_address, object_of, root_of}
use Rattle.model_memory.specs.Plain.{PlainStep, plain}
use Rattle.model_memory.specs.StepLaws.{asks_for_room}
use Rattle.model_words.specs.declared.commands.Command.{Command}
use Rattle.model_words.specs.declared.commands.Command.TheVariants.{Addr, Alias, Copy as CopyBytes, Free, Get, New, Peek, Poke, Put}
use Rattle.model_words.specs.declared.commands.Reply.{Reply}
use Rattle.model_words.specs.declared.refusals.Refusal.{Refusal}
use Rattle.model_words.specs.declared.refusals.Refusal.TheVariants.{Zero, TooLarge, Empty, Freed, Outside, Stray}
use Rattle.model_words.specs.Refusals.{IsRefusedBy}
use Rattle.model_words.specs.Replies.{IsRepliedBy}

-- the cell names an object that isn't live
pub record NamesFreed (m : Memory) (cell : ℕ) : Type 0 where
  pub serial : ℕ
  pub named : root_of m cell ≡ Some serial
  pub gone : object_of m serial ≡ None

-- the range ends past the live object that the cell names
pub record EndsPast (m : Memory) (cell off len : ℕ) : Type 0 where
  pub serial : ℕ
  pub object : Object
  pub named : root_of m cell ≡ Some serial
  pub live : object_of m serial ≡ Some object
  pub past : length object.bytes < off + len

-- when each refusal of a command on a cell's object holds; `outside` is when the command's range ends past the object
abbrev pub cell_holds : Memory → ℕ → Type 0 → Refusal → Type 0
cell_holds m cell outside Empty = root_of m cell ≡ None
cell_holds m cell outside Freed = NamesFreed m cell
cell_holds m cell outside Outside = outside
cell_holds m cell outside _ = ⊥

-- when each refusal of a copy holds: either cell is empty, names an object that isn't live, or has a range that ends
-- past its object
abbrev pub copy_holds : Memory → ℕ → ℕ → ℕ → ℕ → ℕ → Refusal → Type 0
copy_holds m to to_off from from_off len Empty = (root_of m to ≡ None) ⊎ (root_of m from ≡ None)
copy_holds m to to_off from from_off len Freed = NamesFreed m to ⊎ NamesFreed m from
copy_holds m to to_off from from_off len Outside = EndsPast m to to_off len ⊎ EndsPast m from from_off len
copy_holds m to to_off from from_off len _ = ⊥

-- when `Stray`, the only refusal of a command on an address, holds: no live object has the address
abbrev pub address_holds : Memory → ℕ → Refusal → Type 0
address_holds m address Stray = (serial : ℕ) (object : Object) → object_of m serial ≡ Some object → has_address object address ≡ false
address_holds m address _ = ⊥

-- when each refusal of a length holds
abbrev pub length_holds : ℕ → Refusal → Type 0
length_holds len Zero = len ≡ 0
length_holds len TooLarge = 2048 < len
length_holds len _ = ⊥

-- when each refusal of a command in the reference memory holds
abbrev pub plain_holds : Memory → Command → Refusal → Type 0
plain_holds m (New cell len word) = length_holds len
plain_holds m (Put cell off bytes) = cell_holds m cell (EndsPast m cell off (length bytes.items))
plain_holds m (Get cell off len) = cell_holds m cell (EndsPast m cell off len)
plain_holds m (Free cell) = cell_holds m cell ⊥
plain_holds m (Alias to from) = cell_holds m from ⊥
plain_holds m (Addr cell) = cell_holds m cell ⊥
plain_holds m (Peek address) = address_holds m address
plain_holds m (Poke address byte) = address_holds m address
plain_holds m (CopyBytes to to_off from from_off len) = copy_holds m to to_off from from_off len

-- the reference memory refuses a command with the lowest refusal that holds, and does the command if and only if none
-- holds
abbrev pub PlainIsRefusedByLowest : Type 0
PlainIsRefusedByLowest = (m : Memory) (address : ℕ) (command : Command) → IsRefusedBy (plain_holds m command) (plain m address command)

-- unless the command is a `new` of 1 to 2,048 bytes, a plain step replies with the lowest refusal that holds, and with
-- no refusal if and only if none holds
abbrev pub StepRepliesLowest : Type 0
StepRepliesLowest = (m n : Memory) (command : Command) (reply : Reply) → asks_for_room command ≡ false → PlainStep m command reply n
    → IsRepliedBy (plain_holds m command) reply
