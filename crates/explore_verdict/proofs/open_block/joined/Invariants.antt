use Rattle.std.proofs.Common.{◌≡◌, ◌++◌, length}
use Rattle.explore_verdict.specs.OpenBlocks.{joined}
use Rattle.explore_verdict.proofs.open_block.joined.Given as goal

abbrev pub invariant-loop-rest : goal.invariant-loop-rest
invariant-loop-rest l = l.all ++ joined l.rest ≡ joined l.texts

abbrev pub decreases-loop-rest : goal.decreases-loop-rest
decreases-loop-rest l = length l.rest
