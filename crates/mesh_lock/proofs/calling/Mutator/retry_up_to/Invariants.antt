use Rattle.std.proofs.Common.{◌≡◌, ◌≤◌, min}
use Rattle.mesh_lock.specs.CallBudgets.{IsUsedUp}
use Rattle.mesh_lock.proofs.calling.Mutator.retry_up_to.Given as goal

-- nothing was kept so far, a try is left, and the tries so far were counted
abbrev pub invariant-loop : goal.invariant-loop
invariant-loop g l = (l.seat ≡ l.initial.seat) × (l.tries.most ≡ l.initial.tries.most) × (IsUsedUp l.tries → ⊥) × (min 4294967295 l.initial.tries.made ≤ l.tries.made)
