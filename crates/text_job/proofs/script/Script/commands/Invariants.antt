use Rattle.std.proofs.Common.{◌≡◌, map, take}
use Rattle.mesh_packed.specs.Packed.{command_in}
use Rattle.text_job.proofs.script.Script.commands.Given as goal

abbrev pub invariant-loop-packed : goal.invariant-loop-packed
invariant-loop-packed l = l.commands ≡ map (command_in l.self-inside.bytes.items) (take l.packed-index l.self-inside.commands.items)
