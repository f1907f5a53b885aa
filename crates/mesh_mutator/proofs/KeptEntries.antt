-- What was packed stays as it was while more bytes are kept.
use Rattle.std.proofs.Common.{◌≡◌, ℕ, zero, List, [], ◌∷◌, ◌++◌, length, refl, ◌∙◌, arith}
use Rattle.std.proofs.lemmas.List.{map-append}
use Rattle.std.proofs.lemmas.List.Elements.{All-append, All-cons, All-nil, All-tail}
use Rattle.std.specs.List.{All}
use Rattle.model_words.specs.declared.commands.Command.{Command}
use Rattle.model_words.specs.declared.commands.Reply.{Reply}
use Rattle.mesh_packed.specs.Packed.{IsCommandWithin, IsReplyWithin, command_in, command_stays, command_within, reply_in, reply_stays, reply_within}
use Rattle.mesh_packed.specs.Runs.{KeepsAll}
use Rattle.mesh_mutator.specs.PackedEntries.{IsWithin, entries_in, entry_in}
use Rattle.mesh_mutator.specs.declared.packed_entry.PackedEntry.{PackedEntry}

-- all entries stay
entries_stay : (kept kept' : List ℕ) (entries : List PackedEntry) → KeepsAll kept kept' → All (IsWithin (length kept)) entries → entries_in kept' entries ≡ entries_in kept entries
entries_stay kept kept' [] keeps within = refl
entries_stay kept kept' (entry ∷ entries) keeps within =
    let first : IsWithin (length kept) entry = within zero entry (omega arith) in
    rw (
      command_stays kept kept' entry.command keeps first.0,
      reply_stays kept kept' entry.reply keeps first.1,
      entries_stay kept kept' entries keeps (All-tail (IsWithin (length kept)) entry entries within),
    ) refl

-- and what was within stays within
pub entries_within : (kept kept' : List ℕ) (entries : List PackedEntry) → KeepsAll kept kept' → All (IsWithin (length kept)) entries
    → All (IsWithin (length kept')) entries
entries_within kept kept' entries keeps within k entry below =
    let there = within k entry below in
    (command_within (length kept) (length kept') _ keeps.more there.0, reply_within (length kept) (length kept') _ keeps.more there.1)

-- as does a further entry
pub all_within : (kept half kept' : List ℕ) (entries : List PackedEntry) (entry : PackedEntry) → KeepsAll kept half → KeepsAll half kept'
    → All (IsWithin (length kept)) entries → IsCommandWithin (length half) entry.command → IsReplyWithin (length kept') entry.reply
    → All (IsWithin (length kept')) (entries ++ entry ∷ [])
all_within kept half kept' entries entry first second within command reply =
    All-append (IsWithin (length kept')) entries (entry ∷ []) (entries_within half kept' entries second (entries_within kept half entries first within))
    (All-cons (IsWithin (length kept')) entry [] (command_within (length half) (length kept') entry.command second.more command, reply) (All-nil (IsWithin (length kept'))))

-- an entry whose command was packed, and then its reply, stands behind the others
pub entries_pushed : (kept half kept' : List ℕ) (entries : List PackedEntry) (entry : PackedEntry) (command : Command) (reply : Reply) → KeepsAll kept half
    → KeepsAll half kept' → All (IsWithin (length kept)) entries → IsCommandWithin (length half) entry.command → command_in half entry.command ≡ command
    → reply_in kept' entry.reply ≡ reply
    → entries_in kept' (entries ++ entry ∷ []) ≡ entries_in kept entries ++ record { worker = entry.worker; command = command; reply = reply } ∷ []
entries_pushed kept half kept' entries entry command reply first second within command_there is_command is_reply =
    let later : entries_in kept' entries ≡ entries_in half entries = entries_stay half kept' entries second (entries_within kept half entries first within) in
    let same : command_in kept' entry.command ≡ command = command_stays half kept' entry.command second command_there ∙ is_command in
    map-append (entry_in kept') entries (entry ∷ []) ∙ rw (later, entries_stay kept half entries first within, same, is_reply) refl
