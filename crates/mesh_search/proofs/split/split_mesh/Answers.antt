use Rattle.mesh_search.proofs.CandidatePlaces.{found_named}
use Rattle.mesh_search.proofs.FoundPairs.{found_over}
use Rattle.mesh_search.proofs.split.split_mesh.Goals as goal

pub returns : goal.returns
returns c =
    let value = found_over c.args.view.now _ _ _ _ _ c.as_slice.ensures.value c.in_ok-places.ensures.value c.split_places.ensures in
    let found = found_named c.args.view.now c.args.order.now c.args.t c.split_places.result c.requires value in
    record { value = value; probes = found.0; meshable = found.1; once = found.2 }
