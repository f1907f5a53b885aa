use Rattle.std.proofs.Common.{◌≤◌, ℕ}
use Rattle.mesh_spans.specs.Index.{AreUnused, Index}
use Rattle.heap_tests.proofs.tests.search.indexes.filled.Given as goal

-- the next span may begin at this page
pub record IsNext (index : Index) (next : ℕ) : Type 0 where
  pub some : 1 ≤ next
  pub unused : AreUnused index next

abbrev pub invariant-loop : goal.invariant-loop
invariant-loop g l = IsNext l.spans l.next
