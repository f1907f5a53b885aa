-- Packed commands and replies, whose bytes are in a separate list, and proofs that more bytes in the list don't change
-- them.
use Rattle.std.specs.Prelude.{◌≡◌, ℕ, ◌≤◌, List, [], ◌∷◌, ◌++◌, length, map, refl}
use Rattle.std.specs.List.{All}
use Rattle.std.proofs.Common.{zero, arith, ◌∙◌}
use Rattle.std.proofs.lemmas.List.{map-append}
use Rattle.std.proofs.lemmas.List.Elements.{All-tail}
use Rattle.model_words.specs.declared.commands.Command.{Command}
use Rattle.model_words.specs.declared.commands.Command.TheVariants as command
use Rattle.model_words.specs.declared.commands.Reply.{Reply}
use Rattle.model_words.specs.declared.commands.Reply.TheVariants as reply
use Rattle.mesh_packed.specs.declared.command.PackedCommand.{PackedCommand}
use Rattle.mesh_packed.specs.declared.command.PackedCommand.TheVariants.{New, Put, Get, Free, Alias, Addr, Peek, Poke, Copy}
use Rattle.mesh_packed.specs.declared.reply.PackedReply.{PackedReply}
use Rattle.mesh_packed.specs.declared.reply.PackedReply.TheVariants.{Object, Done, Bytes, At, Byte, Refused}
use Rattle.mesh_packed.specs.Runs.{IsRunWithin, KeepsAll, run_in}

-- the command that a packed command represents
abbrev pub command_in : List ℕ → PackedCommand → Command
command_in kept (New cell len word) = command.New cell len word
command_in kept (Put cell off run) = command.Put cell off (run_in kept run)
command_in kept (Get cell off len) = command.Get cell off len
command_in kept (Free cell) = command.Free cell
command_in kept (Alias to from) = command.Alias to from
command_in kept (Addr cell) = command.Addr cell
command_in kept (Peek addr) = command.Peek addr
command_in kept (Poke addr byte) = command.Poke addr byte
command_in kept (Copy to from to_off from_off len) = command.Copy to to_off from from_off len

-- the reply that a packed reply represents
abbrev pub reply_in : List ℕ → PackedReply → Reply
reply_in kept (Object serial addr) = reply.Object serial addr
reply_in kept Done = reply.Done
reply_in kept (Bytes run) = reply.Bytes (run_in kept run)
reply_in kept (At addr) = reply.At addr
reply_in kept (Byte byte) = reply.Byte byte
reply_in kept (Refused refusal) = reply.Refused refusal

-- the bytes of a `put`, or no bytes for another command
abbrev pub bytes_of_command : Command → List ℕ
bytes_of_command (command.Put cell off bytes) = bytes.items
bytes_of_command command = []

-- the bytes in the reply to a `get`, or no bytes for another reply
abbrev pub bytes_of_reply : Reply → List ℕ
bytes_of_reply (reply.Bytes bytes) = bytes.items
bytes_of_reply reply = []

-- if a packed command has bytes, they are at most 32 of the first `count` bytes
abbrev pub IsCommandWithin : ℕ → PackedCommand → Type 0
IsCommandWithin count (Put cell off run) = IsRunWithin count run
IsCommandWithin count command = Unit {0}

-- if a packed reply has bytes, they are at most 32 of the first `count` bytes
abbrev pub IsReplyWithin : ℕ → PackedReply → Type 0
IsReplyWithin count (Bytes run) = IsRunWithin count run
IsReplyWithin count reply = Unit {0}

-- if bytes are added and no kept run changes, a packed command whose bytes were kept before still represents its
-- command
pub command_stays : (kept kept' : List ℕ) (command : PackedCommand) → KeepsAll kept kept' → IsCommandWithin (length kept) command → command_in kept' command ≡ command_in kept command
command_stays kept kept' (Put cell off run) keeps within = rw (keeps.runs run within) refl
command_stays kept kept' command keeps within = refl

-- if bytes are added and no kept run changes, a packed reply whose bytes were kept before still represents its reply
pub reply_stays : (kept kept' : List ℕ) (reply : PackedReply) → KeepsAll kept kept' → IsReplyWithin (length kept) reply → reply_in kept' reply ≡ reply_in kept reply
reply_stays kept kept' (Bytes run) keeps within = rw (keeps.runs run within) refl
reply_stays kept kept' reply keeps within = refl

-- if a packed command's or reply's bytes are within `count` bytes, they are within any larger number of bytes
pub command_within : (count count' : ℕ) (command : PackedCommand) → count ≤ count' → IsCommandWithin count command → IsCommandWithin count' command
command_within count count' (Put cell off run) most within = record { ends = omega (arith, most, within.ends); few = within.few }
command_within count count' command most within = tt

pub reply_within : (count count' : ℕ) (reply : PackedReply) → count ≤ count' → IsReplyWithin count reply → IsReplyWithin count' reply
reply_within count count' (Bytes run) most within = record { ends = omega (arith, most, within.ends); few = within.few }
reply_within count count' reply most within = tt

-- if bytes are added and no kept run changes, the packed commands of a list whose bytes were kept before still
-- represent their commands
commands_stay : (kept kept' : List ℕ) (commands : List PackedCommand) → KeepsAll kept kept' → All (IsCommandWithin (length kept)) commands → map (command_in kept') commands ≡ map (command_in kept) commands
commands_stay kept kept' [] keeps within = refl
commands_stay kept kept' (command ∷ commands) keeps within =
    rw (
      command_stays kept kept' command keeps (within zero command (omega arith)),
      commands_stay kept kept' commands keeps (All-tail (IsCommandWithin (length kept)) command commands within),
    ) refl

-- if a packed command is appended to such a list, the list represents the commands before, followed by the appended
-- command
pub commands_pushed : (kept kept' : List ℕ) (commands : List PackedCommand) (packed : PackedCommand) (command : Command) → KeepsAll kept kept' → All (IsCommandWithin (length kept)) commands → command_in kept' packed ≡ command
    → map (command_in kept') (commands ++ packed ∷ []) ≡ map (command_in kept) commands ++ command ∷ []
commands_pushed kept kept' commands packed command keeps within is = map-append (command_in kept') commands (packed ∷ []) ∙ rw (commands_stay kept kept' commands keeps within, is) refl
