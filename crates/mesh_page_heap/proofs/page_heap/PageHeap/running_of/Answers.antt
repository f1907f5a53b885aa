use Rattle.std.proofs.Common.{nat_eq, position, ap, refl, sym, ◌∙◌}
use Rattle.mesh_page_heap.proofs.MeshRuns.{none_running, running_found}
use Rattle.mesh_page_heap.proofs.page_heap.PageHeap.running_of.Goals as goal

pub returns-in_default-clause-refused : goal.returns-in_default-clause-refused
returns-in_default-clause-refused c = (
  refl,
  none_running _ _ c.args.class c.self.view_is
      (ap (position (λ mesh. nat_eq mesh.class c.args.class)) (sym c.as_slice.ensures.value) ∙ sym c.place_of.ensures ∙ c.in_default.is),
)

pub returns-clause-found : goal.returns-clause-found
returns-clause-found c =
    running_found _ _ _ _ _ _ _ _ c.self.view_is c.as_slice.ensures.value c.place_of.ensures c.in-Some.is c.deref.ensures.0 c.index-deref-place.is
