use Rattle.std.proofs.Common.{◌≡◌, ◌≤◌, None}
use Rattle.mesh_lock.specs.CallBudgets.{IsUsedUp}
use Rattle.mesh_shared.specs.MesherRuns.{HasCounted}
use Rattle.mesh_shared.proofs.mesher.Mesher.make_rounds.Given as goal

-- all rounds so far are counted, and unless the calls are over, all are whole
abbrev pub invariant-loop-round : goal.invariant-loop-round
invariant-loop-round g l =
    (l.calls.budget.most ≡ l.initial.calls.budget.most) × (l.whole ≤ l.round) × ((IsUsedUp l.calls.budget → ⊥) → l.whole ≡ l.round)
    × HasCounted l.round l.calls.budget.most l.calls.budget.made None l.calls.counts
