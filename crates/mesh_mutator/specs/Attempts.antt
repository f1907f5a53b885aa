-- Which commands only read.
use Rattle.model_words.specs.declared.commands.Command.{Command}
use Rattle.model_words.specs.declared.commands.Command.TheVariants.{New, Put, Get, Free, Alias, Addr, Peek, Poke, Copy}
use Rattle.std.specs.Prelude.{◌≤◌}

-- the command only reads, and changes nothing. A `get` reads 1 to 32 bytes
abbrev pub IsLook : Command → Type 0
IsLook (New cell len word) = ⊥
IsLook (Put cell off bytes) = ⊥
IsLook (Get cell off len) = (1 ≤ len) × (len ≤ 32)
IsLook (Free cell) = ⊥
IsLook (Alias to from) = ⊥
IsLook (Addr cell) = Unit {0}
IsLook (Peek addr) = Unit {0}
IsLook (Poke addr byte) = ⊥
IsLook (Copy to to_off from from_off len) = ⊥
