use Rattle.std.proofs.Common.{◌≡◌, ◌+◌, ◌++◌, vec_len}
use Rattle.std.specs.Vec.Iter.{into_iter_items, into_iter_len}
use Rattle.mesh_shared.specs.MesherRuns.{own_from}
use Rattle.mesh_shared.proofs.mesher.own_of.Given as goal

abbrev pub invariant-loop-view : goal.invariant-loop-view
invariant-loop-view l =
    let rest = l.view-iterator in
    (l.own.items ++ own_from l.meshers l.number l.place (into_iter_items rest) ≡ own_from l.meshers l.number 0 l.fn.all.items)
    × (l.place + into_iter_len rest ≡ vec_len l.fn.all)
