-- How a journal stores its entries: packed, with the bytes of commands and replies beside them.
use Rattle.std.specs.Prelude.{ℕ, List, map}
use Rattle.model_memory.specs.Plain.{Entry}
use Rattle.mesh_packed.specs.Packed.{IsCommandWithin, IsReplyWithin, command_in, reply_in}
use Rattle.mesh_mutator.specs.declared.packed_entry.PackedEntry.{PackedEntry}

-- the entry that a packed entry stands for
abbrev pub entry_in : List ℕ → PackedEntry → Entry
entry_in kept entry = record { worker = entry.worker; command = command_in kept entry.command; reply = reply_in kept entry.reply }

-- the entries that packed entries stand for
abbrev pub entries_in : List ℕ → List PackedEntry → List Entry
entries_in kept entries = map (entry_in kept) entries

-- the bytes of a packed entry are among the first `count` ones
abbrev pub IsWithin : ℕ → PackedEntry → Type 0
IsWithin count entry = IsCommandWithin count entry.command × IsReplyWithin count entry.reply
