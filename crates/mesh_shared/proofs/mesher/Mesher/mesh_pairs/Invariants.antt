use Rattle.std.proofs.Common.{◌≡◌, ◌≤◌}
use Rattle.mesh_lock.specs.CallBudgets.{IsUsedUp}
use Rattle.mesh_shared.specs.Counts.{ArePairsTried}
use Rattle.mesh_shared.proofs.mesher.Mesher.mesh_pairs.Given as goal

-- all pairs so far were tried, and unless the calls are over, all have ended
abbrev pub invariant-loop-k : goal.invariant-loop-k
invariant-loop-k g l =
    (l.ended ≤ l.k) × ((IsUsedUp l.calls.budget → ⊥) → l.ended ≡ l.k) × ArePairsTried l.k l.initial.calls l.calls
