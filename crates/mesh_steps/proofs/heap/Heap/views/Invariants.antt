use Rattle.std.proofs.Common.{◌≡◌, map, take}
use Rattle.model_search.specs.Search.{view_of}
use Rattle.mesh_steps.specs.Heap.{table_of}
use Rattle.mesh_steps.proofs.heap.Heap.views.Given as goal

abbrev pub invariant-loop-class : goal.invariant-loop-class
invariant-loop-class l = l.views.items ≡ map (view_of (table_of l.self)) (take l.class-index l.class-items)
