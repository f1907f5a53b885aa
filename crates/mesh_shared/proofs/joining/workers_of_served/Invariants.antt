use Rattle.std.proofs.Common.{◌≡◌, ◌≤◌, length, map, take, vec_capacity, vec_len}
use Rattle.mesh_shared.proofs.joining.workers_of_served.Given as goal

abbrev pub invariant-loop-w : goal.invariant-loop-w
invariant-loop-w l =
    (l.workers.items ≡ map (λ one. one.worked) (take l.w l.served)) × (vec_len l.workers ≡ l.w) × (length l.served ≤ vec_capacity l.workers)
