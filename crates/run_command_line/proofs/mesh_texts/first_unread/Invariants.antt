use Rattle.std.proofs.Common.{◌≡◌, find, length, map}
use Rattle.run_command_line.specs.CommandLine.{is_no_pair}
use Rattle.run_command_line.proofs.mesh_texts.first_unread.Given as goal

-- the first of all texts that is no pair is the first of the rest
abbrev pub invariant-loop-rest : goal.invariant-loop-rest
invariant-loop-rest l = find is_no_pair (map (λ text. text.now) l.texts) ≡ find is_no_pair (map (λ text. text.now) l.rest)

abbrev pub decreases-loop-rest : goal.decreases-loop-rest
decreases-loop-rest l = length l.rest
