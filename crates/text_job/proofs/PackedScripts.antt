-- The packed commands of a script.
use Rattle.std.proofs.Common.{◌≡◌, ℕ, ◌<◌, List, [], ◌∷◌, ◌++◌, length, map, get_or, sym, subst}
use Rattle.std.proofs.lemmas.List.Elements.{All-append, All-cons, All-nil}
use Rattle.model_words.specs.Commands.{IsInRange}
use Rattle.model_words.specs.declared.commands.Command.{Command}
use Rattle.mesh_packed.specs.Packed.{IsCommandWithin, command_in, command_stays, command_within, commands_pushed}
use Rattle.mesh_packed.specs.Runs.{KeepsAll}
use Rattle.mesh_packed.specs.declared.command.PackedCommand.{PackedCommand}
use Rattle.text_job.specs.Scripts.{IsScript}

-- the command at a place may be handed to the heap
pub in_range_at : (bytes : List ℕ) (commands : List PackedCommand) (place : ℕ) (packed : PackedCommand) → IsScript bytes commands → place < length commands → packed ≡ get_or commands place packed → IsInRange (command_in bytes packed)
in_range_at bytes commands place packed script below is = subst (λ command. IsInRange (command_in bytes command)) (sym is) (script.in_range place packed below)

-- a script with one more command that was packed
pub script_pushed : (kept kept' : List ℕ) (commands : List PackedCommand) (packed : PackedCommand) → IsScript kept commands → KeepsAll kept kept' → IsCommandWithin (length kept') packed → IsInRange (command_in kept' packed)
    → IsScript kept' (commands ++ packed ∷ [])
script_pushed kept kept' commands packed script keeps within fits = record {
  within = All-append (IsCommandWithin (length kept')) commands (packed ∷ [])
      (λ k d below. command_within (length kept) (length kept') _ keeps.more (script.within k d below))
      (All-cons (IsCommandWithin (length kept')) packed [] within (All-nil (IsCommandWithin (length kept'))));
  in_range = All-append (λ command. IsInRange (command_in kept' command)) commands (packed ∷ [])
      (λ k d below. subst IsInRange (sym (command_stays kept kept' _ keeps (script.within k d below))) (script.in_range k d below))
      (All-cons (λ command. IsInRange (command_in kept' command)) packed [] fits (All-nil (λ command. IsInRange (command_in kept' command))));
}

-- and what it stands for
pub view_pushed : (kept kept' : List ℕ) (commands : List PackedCommand) (packed : PackedCommand) (command : Command) → IsScript kept commands → KeepsAll kept kept' → command_in kept' packed ≡ command
    → map (command_in kept') (commands ++ packed ∷ []) ≡ map (command_in kept) commands ++ command ∷ []
view_pushed kept kept' commands packed command script keeps is = commands_pushed kept kept' commands packed command keeps script.within is
