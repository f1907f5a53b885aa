use Rattle.std.proofs.Common.{◌≡◌, ◌≤◌, take}
use Rattle.mesh_lock.specs.CallBudgets.{IsUsedUp}
use Rattle.mesh_shared.specs.Counts.{ArePairsTried, pairs_in}
use Rattle.mesh_shared.proofs.mesher.Mesher.mesh_all.Given as goal

-- the pairs of all views so far were tried, and unless the calls are over, all those views are whole
abbrev pub invariant-loop-k : goal.invariant-loop-k
invariant-loop-k g l =
    (l.whole ≤ l.k) × ((IsUsedUp l.calls.budget → ⊥) → l.whole ≡ l.k) × ArePairsTried (pairs_in (take l.k l.found)) l.initial.calls l.calls
