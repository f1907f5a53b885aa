use Rattle.std.proofs.Common.{◌≡◌, ◌≤◌, ◌+◌, ◌++◌, map, vec_len, vec_capacity}
use Rattle.std.specs.Vec.Iter.{into_iter_items, into_iter_len}
use Rattle.mesh_shared.proofs.joining.meshers_of_ends.Given as goal

abbrev pub invariant-loop-end : goal.invariant-loop-end
invariant-loop-end l =
    let rest = l.end-iterator in
    (l.meshers.items ++ map (λ one. one.meshed) (into_iter_items rest) ≡ map (λ one. one.meshed) l.fn.ends.items)
    × (vec_len l.meshers + into_iter_len rest ≤ vec_capacity l.meshers)
