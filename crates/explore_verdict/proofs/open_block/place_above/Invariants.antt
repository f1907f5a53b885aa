use Rattle.std.proofs.Common.{◌≡◌, ◌+◌, ◌≤◌, length}
use Rattle.explore_verdict.specs.OpenBlocks.{place_above}
use Rattle.explore_verdict.proofs.open_block.place_above.Given as goal

abbrev pub invariant-loop-rest : goal.invariant-loop-rest
invariant-loop-rest l = record {
  counted : l.place + place_above l.worker l.rest ≡ place_above l.worker l.lines;
  few : l.place + length l.rest ≤ length l.lines;
}

abbrev pub decreases-loop-rest : goal.decreases-loop-rest
decreases-loop-rest l = length l.rest
