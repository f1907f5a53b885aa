use Rattle.std.proofs.Common.{◌≡◌, ◌+◌, ◌++◌, length, map, option_map}
use Rattle.run_command_line.specs.CommandLine.{pairs_in}
use Rattle.run_command_line.specs.Meshes.{pairs_of}
use Rattle.run_command_line.proofs.mesh_texts.pairs.Given as goal

-- what all texts are is what was added, and behind it what the rest are
abbrev pub invariant-loop-rest : goal.invariant-loop-rest
invariant-loop-rest l =
    (pairs_in (map (λ text. text.now) l.texts) ≡ option_map (λ pairs. pairs_of l.meshes ++ pairs) (pairs_in (map (λ text. text.now) l.rest)))
    × (l.meshes.count + length l.rest ≡ length l.texts)

abbrev pub decreases-loop-rest : goal.decreases-loop-rest
decreases-loop-rest l = length l.rest
