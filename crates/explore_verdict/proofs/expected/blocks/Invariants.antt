use Rattle.std.proofs.Common.{◌≡◌, ◌++◌, length}
use Rattle.explore_verdict.specs.Expected.{blocks_from, blocks_of}
use Rattle.explore_verdict.specs.ListingLines.{lines_of}
use Rattle.explore_verdict.proofs.expected.blocks.Given as goal

abbrev pub invariant-loop-line : goal.invariant-loop-line
invariant-loop-line l = l.read.done.items ++ blocks_from l.read.begun (lines_of l.rest) ≡ blocks_of l.text

abbrev pub decreases-loop-line : goal.decreases-loop-line
decreases-loop-line l = length l.rest
