use Rattle.std.proofs.Common.{◌≡◌, List, Bor, map, take}
use Rattle.std.specs.List.{All}
use Rattle.model_words.specs.Commands.{IsInRange}
use Rattle.model_words.specs.declared.commands.Command.{Command}
use Rattle.run_program.proofs.threads.slices_of.Given as goal

abbrev pub invariant-loop-commands : goal.invariant-loop-commands
invariant-loop-commands l = record {
  value : map (λ (script : Bor (List Command)). script.now) l.slices.items ≡ take l.commands-index l.scripts;
  range : All (λ (script : Bor (List Command)). All IsInRange script.now) l.slices.items;
}
