use Rattle.std.proofs.Common.{◌≡◌}
use Rattle.history_overlaps.specs.Begins.{first_access}
use Rattle.history_overlaps.proofs.begins.first_access_of.Given as goal

-- the first that is left is the first of all
abbrev pub invariant-loop-key : goal.invariant-loop-key
invariant-loop-key l = first_access l.waiting.entries l.cell ≡ first_access l.key-iterator l.cell
