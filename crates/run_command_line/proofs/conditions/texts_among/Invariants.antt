use Rattle.std.proofs.Common.{◌≡◌, ◌+◌, ◌++◌, length, map}
use Rattle.run_command_line.specs.Conditions.{texts_of}
use Rattle.run_command_line.proofs.conditions.texts_among.Given as goal

-- all texts are what was added, and behind it the rest
abbrev pub invariant-loop-rest : goal.invariant-loop-rest
invariant-loop-rest l =
    (texts_of l.list ++ map (λ text. text.now) l.rest ≡ map (λ text. text.now) l.texts) × (l.list.count + length l.rest ≡ length l.texts)

abbrev pub decreases-loop-rest : goal.decreases-loop-rest
decreases-loop-rest l = length l.rest
