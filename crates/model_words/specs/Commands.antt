-- The conditions on a command.
use Rattle.std.specs.Prelude.{◌≤◌}
use Rattle.arrayvec.specs.ArrayVec.{array_vec_len}
use Rattle.model_words.specs.declared.commands.Command.{Command}
use Rattle.model_words.specs.declared.commands.Command.TheVariants.{New, Put, Get, Free, Alias, Addr, Peek, Poke, Copy as CopyBytes}

-- whether a command's lengths are in range: a `put` stores at least 1 byte, and a `get` or `copy` has 1 to 32 bytes.
-- That a `put` stores at most 32 bytes follows from its type
abbrev pub IsInRange : Command → Type 0
IsInRange (New cell len word) = Unit {0}
IsInRange (Put cell off bytes) = 1 ≤ array_vec_len bytes
IsInRange (Get cell off len) = (1 ≤ len) × (len ≤ 32)
IsInRange (Free cell) = Unit {0}
IsInRange (Alias to from) = Unit {0}
IsInRange (Addr cell) = Unit {0}
IsInRange (Peek addr) = Unit {0}
IsInRange (Poke addr byte) = Unit {0}
IsInRange (CopyBytes to to_off from from_off len) = (1 ≤ len) × (len ≤ 32)
