use Rattle.std.proofs.Common.{◌≡◌, ◌≤◌, ◌+◌, ◌++◌, map, vec_len, vec_capacity}
use Rattle.std.specs.Vec.Iter.{into_iter_items, into_iter_len}
use Rattle.mesh_shared.proofs.joining.seats_of_served.Given as goal

abbrev pub invariant-loop-one : goal.invariant-loop-one
invariant-loop-one l =
    let rest = l.one-iterator in
    (l.seats.items ++ map (λ one. one.seat) (into_iter_items rest) ≡ map (λ one. one.seat) l.fn.served.items)
    × (vec_len l.seats + into_iter_len rest ≤ vec_capacity l.seats)
