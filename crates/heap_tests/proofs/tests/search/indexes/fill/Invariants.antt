use Rattle.std.proofs.Common.{◌≡◌}
use Rattle.heap_tests.proofs.tests.search.indexes.fill.Given as goal

abbrev pub invariant-loop-serial : goal.invariant-loop-serial
invariant-loop-serial l = l.spans.spans ≡ l.fn.spans.spans
