use Rattle.mesh_steps.proofs.Objects.{read_past, read_stale}
use Rattle.mesh_steps.proofs.heap.Heap.read.Goals as goal

pub returns-in_default-clause-refused : goal.returns-in_default-clause-refused
returns-in_default-clause-refused c =
    read_stale c.args.self.now c.args.object c.args.off c.args.len c.in_default.ensures.none

pub returns-then-not-has_range-clause-refused : goal.returns-then-not-has_range-clause-refused
returns-then-not-has_range-clause-refused c = read_past _ _ _ _ _ c.in-Some.ensures.there c.if-not-has_range.ensures.past
