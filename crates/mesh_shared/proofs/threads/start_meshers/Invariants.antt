use Rattle.std.proofs.Common.{◌≡◌, ◌≤◌, ◌<◌, ℕ, IfSome, None, slice_index_or, vec_len, vec_capacity}
use Rattle.mesh_shared.specs.declared.stops.EarlyExit.TheVariants.{Thread}
use Rattle.mesh_shared.proofs.threads.start_meshers.Given as goal

-- as many meshers as there is room for; where each thread was started, one for each of the first numbers; else a thread
-- is what was refused
abbrev pub invariant-loop-number : goal.invariant-loop-number
invariant-loop-number g l =
    (vec_len l.meshers ≤ l.number) × (l.plan.meshers ≤ vec_capacity l.meshers)
    × (l.refused ≡ None → vec_len l.meshers ≡ l.number)
    × (l.refused ≡ None → (q : ℕ) (d : _) → q < l.number
    → (slice_index_or l.meshers.items q d).promise ≡ record { rounds = l.rounds; number = q; most = l.most })
    × IfSome l.refused (λ stop. stop ≡ Thread)
