use Rattle.std.proofs.Common.{sym, refl}
use Rattle.mesh_page_heap.proofs.Shown.{object_shown}
use Rattle.mesh_page_heap.proofs.page_heap.PageHeap.object.Goals as goal

pub returns-in_err-span : goal.returns-in_err-span
returns-in_err-span c = rw (← c.self.view_is, object_shown _ _ _ _ _ _ c.sound.ensures refl (sym c.in_err-span.ensures)) c.from_residual.ensures

pub returns : goal.returns
returns c =
    rw (← c.self.view_is, object_shown _ _ _ _ _ _ c.sound.ensures refl (sym c.in_ok-span.ensures), ← c.numbered.ensures) c.record.ensures.value
