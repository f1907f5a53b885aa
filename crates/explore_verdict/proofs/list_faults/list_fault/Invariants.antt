use Rattle.std.proofs.Common.{◌≡◌, ◌+◌, ◌≤◌, length}
use Rattle.explore_verdict.specs.ListFaults.{list_fault, list_fault_from}
use Rattle.explore_verdict.specs.ListingLines.{lines_of}
use Rattle.explore_verdict.proofs.list_faults.list_fault.Given as goal

abbrev pub invariant-loop-line : goal.invariant-loop-line
invariant-loop-line l = record {
  goes : list_fault_from l.number l.before l.is_listed (lines_of l.rest) ≡ list_fault l.text;
  few : l.number + length l.rest ≤ 1 + length l.text;
}

abbrev pub decreases-loop-line : goal.decreases-loop-line
decreases-loop-line l = length l.rest
