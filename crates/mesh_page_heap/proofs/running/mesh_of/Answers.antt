use Rattle.std.proofs.Common.{Some, nat_eq, ap, sym, ◌∙◌}
use Rattle.std.proofs.lemmas.Option.{get_or_from_slice_get}
use Rattle.mesh_page_heap.proofs.MeshPlaces.{position_finds, position_none}
use Rattle.mesh_page_heap.proofs.running.mesh_of.Goals as goal

pub returns-in_err-place : goal.returns-in_err-place
returns-in_err-place c =
    c.from_residual.ensures ∙ sym (position_none (λ mesh. nat_eq mesh.source c.args.source) c.args.meshes.now (sym c.in_err-place.ensures))

pub returns : goal.returns
returns c =
    let first = position_finds (λ mesh. nat_eq mesh.source c.args.source) c.args.meshes.now c.in_ok-place.place (sym c.in_ok-place.ensures) in
    ap (λ mesh. Some mesh) (c.index-meshes-place.is ∙ get_or_from_slice_get c.args.meshes.now c.in_ok-place.place first.this c.index-meshes-place.result first.at) ∙ sym first.found
