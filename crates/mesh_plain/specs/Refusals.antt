-- The refusal for each fault, and the commands that may run out of memory.
use Rattle.std.specs.Prelude.{◌≡◌, ℕ, Result, Ok, Err, IsOk}
use Rattle.model_memory.specs.Memory.{Memory, Object}
use Rattle.model_memory.specs.Plain.{named_by}
use Rattle.model_words.specs.declared.commands.Command.{Command}
use Rattle.model_words.specs.declared.commands.Command.TheVariants.{New, Get, Addr, Peek, Alias}
use Rattle.model_words.specs.declared.commands.Reply.{Reply}
use Rattle.model_words.specs.declared.commands.Reply.TheVariants.{Object as Made}
use Rattle.model_words.specs.declared.refusals.Refusal.{Refusal}
use Rattle.model_words.specs.declared.refusals.Refusal.TheVariants.{Empty as IsEmpty, Freed as IsFreed, Outside as IsOutside, Stray as IsStray}
use Rattle.mesh_plain.specs.declared.faults.PlainFault.{PlainFault}
use Rattle.mesh_plain.specs.declared.faults.PlainFault.TheVariants.{Empty, Freed, Outside, Stray, Memory as OfMemory}

-- the step is refused with the refusal of this fault. Out of memory has no refusal
abbrev pub IsRefusedAs : {X : Type 0} → PlainFault → Result X Refusal → Type 0
IsRefusedAs Empty step = step ≡ Err IsEmpty
IsRefusedAs Freed step = step ≡ Err IsFreed
IsRefusedAs Outside step = step ≡ Err IsOutside
IsRefusedAs Stray step = step ≡ Err IsStray
IsRefusedAs OfMemory step = ⊥

-- the step is refused with the refusal of this fault, or the fault is out of memory and the step isn't refused
abbrev pub IsRefusedOrMemory : {X : Type 0} → PlainFault → Result X Refusal → Type 0
IsRefusedOrMemory OfMemory step = IsOk step
IsRefusedOrMemory fault step = IsRefusedAs fault step

-- the command can change the memory, and makes no object
abbrev pub IsChange : Command → Type 0
IsChange (New cell len word) = ⊥
IsChange (Get cell off len) = ⊥
IsChange (Addr cell) = ⊥
IsChange (Peek address) = ⊥
IsChange command = Unit {0}

-- the command with this reply may allocate memory: a `new` that made an object, or an `alias`
abbrev pub MayTakeMemory : Command → Reply → Type 0
MayTakeMemory (New cell len word) (Made serial address) = Unit {0}
MayTakeMemory (Alias to from) reply = Unit {0}
MayTakeMemory command reply = ⊥

-- the command is refused with the refusal of this fault. Or the fault is out of memory, the step isn't refused, and the
-- command may allocate memory with every reply, as only an `alias` may
abbrev pub IsRefusedFor : {X : Type 0} → Command → PlainFault → Result X Refusal → Type 0
IsRefusedFor command fault step = IsRefusedOrMemory fault step × (fault ≡ OfMemory → (reply : Reply) → MayTakeMemory command reply)

-- the cell names a live object with this serial and this address
pub record IsNamedAt (m : Memory) (cell serial address : ℕ) : Type 0 where
  pub object : Object
  pub named : named_by m cell ≡ Ok (record { serial = serial; object = object })
  pub address_is : object.address ≡ address
