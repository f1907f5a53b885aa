-- Which replies no plain step has, and how far memory and command determine the reply.
use Rattle.std.specs.Prelude.{◌≡◌, ℕ, Ok, Err, ◌↔◌, ◌+◌, ◌<◌, ◌≤◌, ◌⊎◌, Bool, true, false, ◌&&◌, nat_le, Some}
use Rattle.model_memory.specs.Memory.{Memory, Object, has_address, next_serial, object_of}
use Rattle.model_memory.specs.Plain.{plain, PlainStep, IsVacantRange}
use Rattle.model_words.specs.declared.commands.Command.{Command}
use Rattle.model_words.specs.declared.commands.Command.TheVariants.{New}
use Rattle.model_words.specs.declared.commands.Reply.{Reply}
use Rattle.model_words.specs.declared.commands.Reply.TheVariants.{Refused, Object as Made}
use Rattle.model_words.specs.declared.refusals.Refusal.{Refusal}
use Rattle.model_words.specs.declared.refusals.Refusal.TheVariants.{Zero, TooLarge, NoPages, NoAddresses}

-- no object is made in a range that has an address of a live object
abbrev pub NoneIsMadeOverAnother : Type 0
NoneIsMadeOverAnother = (m n : Memory) (cell len word serial address other x : ℕ) (object : Object) → object_of m other ≡ Some object
    → address ≤ x → x < address + len → has_address object x ≡ true → PlainStep m (New cell len word) (Made serial address) n → ⊥

-- an object that is made has the next serial, and 1 to 2,048 bytes
abbrev pub MadeIsNext : Type 0
MadeIsNext = (m n : Memory) (cell len word serial address : ℕ) → PlainStep m (New cell len word) (Made serial address) n
    → (serial ≡ next_serial m) × (1 ≤ len) × (len ≤ 2048)

-- a `new` is refused with `Zero` if and only if its length is 0
abbrev pub ZeroIsOfNone : Type 0
ZeroIsOfNone = (m : Memory) (cell len word : ℕ) → PlainStep m (New cell len word) (Refused Zero) m ↔ (len ≡ 0)

-- a `new` is refused with `TooLarge` if and only if its length is above 2,048 bytes
abbrev pub TooLargeIsAbove : Type 0
TooLargeIsAbove = (m : Memory) (cell len word : ℕ) → PlainStep m (New cell len word) (Refused TooLarge) m ↔ (2048 < len)

-- a `new` may be refused with `NoPages` if and only if its length is 1 to 2,048 bytes
abbrev pub NoPagesIsBetween : Type 0
NoPagesIsBetween = (m : Memory) (cell len word : ℕ) → PlainStep m (New cell len word) (Refused NoPages) m ↔ ((1 ≤ len) × (len ≤ 2048))

-- a `new` may be refused with `NoAddresses` if and only if its length is 1 to 2,048 bytes
abbrev pub NoAddressesIsBetween : Type 0
NoAddressesIsBetween = (m : Memory) (cell len word : ℕ) → PlainStep m (New cell len word) (Refused NoAddresses) m ↔ ((1 ≤ len) × (len ≤ 2048))

-- a refused command doesn't change the memory
abbrev pub RefusalLeavesMemory : Type 0
RefusalLeavesMemory = (m n : Memory) (command : Command) (refusal : Refusal) → PlainStep m command (Refused refusal) n → n ≡ m

-- whether the command is a `new` of 1 to 2,048 bytes, which may have room
abbrev pub asks_for_room : Command → Bool
asks_for_room (New cell len word) = nat_le 1 len && nat_le len 2048
asks_for_room command = false

-- unless the command is a `new` of 1 to 2,048 bytes, memory and command determine the reply
abbrev pub ReplyDetermined : Type 0
ReplyDetermined = (m : Memory) (command : Command) (reply reply' : Reply) (n n' : Memory) → asks_for_room command ≡ false
    → PlainStep m command reply n → PlainStep m command reply' n' → reply ≡ reply'

-- a `new` of 1 to 2,048 bytes returns the next serial and an address, or is refused with `NoPages` or `NoAddresses`
abbrev pub RoomIsOpen : Type 0
RoomIsOpen = (m n : Memory) (cell len word : ℕ) (reply : Reply) → 1 ≤ len → len ≤ 2048 → PlainStep m (New cell len word) reply n
    → ((address : ℕ) × (reply ≡ Made (next_serial m) address)) ⊎ (reply ≡ Refused NoPages) ⊎ (reply ≡ Refused NoAddresses)

-- the address suits the command: if the command is a `new`, the object's range at the address is vacant. Other commands
-- don't use the address
abbrev pub IsFitting : Memory → ℕ → Command → Type 0
IsFitting m address (New cell len word) = IsVacantRange m address len
IsFitting m address command = Unit {0}

-- if the address suits the command and `plain` returns a reply and a memory, these are a plain step
abbrev pub PlainIsStep : Type 0
PlainIsStep = (m : Memory) (address : ℕ) (command : Command) (reply : Reply) (n : Memory)
    → IsFitting m address command → plain m address command ≡ Ok (reply, n) → PlainStep m command reply n

-- if `plain` refuses a command, the refusal with the unchanged memory is a plain step
abbrev pub PlainRefusalIsStep : Type 0
PlainRefusalIsStep = (m : Memory) (address : ℕ) (command : Command) (refusal : Refusal)
    → plain m address command ≡ Err refusal → PlainStep m command (Refused refusal) m

-- memory, command and reply determine the memory after a plain step
abbrev pub StepDetermined : Type 0
StepDetermined = (m : Memory) (command : Command) (reply : Reply) (n n' : Memory)
    → PlainStep m command reply n → PlainStep m command reply n' → n ≡ n'
