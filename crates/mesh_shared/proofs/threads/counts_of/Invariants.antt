use Rattle.std.proofs.Common.{◌≡◌, ◌≤◌, length, vec_len, vec_capacity}
use Rattle.mesh_shared.proofs.threads.counts_of.Given as goal

abbrev pub invariant-loop-k : goal.invariant-loop-k
invariant-loop-k l = (vec_len l.counts ≡ l.k) × (length l.scripts ≤ vec_capacity l.counts)
