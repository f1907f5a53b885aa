use Rattle.std.proofs.Common.{List, ap, sym}
use Rattle.mesh_page_heap.specs.MeshLayouts.{mesh_from}
use Rattle.model_heap.specs.Table.{Mesh}
use Rattle.mesh_page_heap.proofs.Shown.{calm_released, cancelled_released, none_released, released_shown}
use Rattle.mesh_page_heap.proofs.page_heap.PageHeap.released.Goals as goal

pub returns-in_default : goal.returns-in_default
returns-in_default c = rw (← c.self.view_is) (none_released c.self.inside.spans c.args.n _ (sym c.in_default.ensures))

pub returns-in_default-mesh_of : goal.returns-in_default-mesh_of
returns-in_default-mesh_of c =
    rw (← c.self.view_is, ap (λ (ms : List Mesh). mesh_from c.args.n ms) (sym c.as_slice.ensures.value), ← c.in_default-mesh_of.ensures)
    (calm_released c.self.inside.spans c.args.n c.in-Some._group.now (sym c.in-Some.ensures))

pub returns-in-Made : goal.returns-in-Made
returns-in-Made c =
    rw (← c.self.view_is, ap (λ (ms : List Mesh). mesh_from c.args.n ms) (sym c.as_slice.ensures.value), ← c.in-Some-mesh_of.ensures, c.released_after.ensures)
    (released_shown _ _ _ _ _ _ _ (sym c.in-Some.ensures) (sym c.in-Made.ensures.value) c.order_of.ensures.of.total c.order_of.ensures.of.slots)

pub returns-in-Unwinding : goal.returns-in-Unwinding
returns-in-Unwinding c =
    rw (← c.self.view_is, ap (λ (ms : List Mesh). mesh_from c.args.n ms) (sym c.as_slice.ensures.value), ← c.in-Some-mesh_of.ensures)
    (cancelled_released c.self.inside.spans c.args.n _ _ c.in-Some-mesh_of.mesh c.in-Some._group.now (sym c.in-Some.ensures) (sym c.in-Unwinding.ensures.value))
