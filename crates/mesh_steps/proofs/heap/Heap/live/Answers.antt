use Rattle.std.proofs.Common.{inl, inr, arith}
use Rattle.mesh_steps.proofs.Objects.{begins_in, reference_stale, referred_is}
use Rattle.mesh_steps.proofs.heap.Heap.live.Goals as goal

pub returns-then-found-object-clause-there : goal.returns-then-found-object-clause-there
returns-then-found-object-clause-there c =
    referred_is _ _ _ c.object_at.ensures.sound c.in_ok-found.ensures.there (omega arith) (omega arith)

pub returns-in_err-found-clause-none : goal.returns-in_err-found-clause-none
returns-in_err-found-clause-none c = rw c.from_residual.ensures (reference_stale _ _ c.object_at.ensures.sound
    (λ r is at. c.in_err-found.ensures.found c.args.object.serial r is (begins_in _ _ _ _ c.object_at.ensures.sound is at)))

pub returns-else-found-eq0-clause-none : goal.returns-else-found-eq0-clause-none
returns-else-found-eq0-clause-none c = reference_stale _ _ c.object_at.ensures.sound
    (λ r is at. let there = c.in_ok-found.ensures.found c.args.object.serial r is (begins_in _ _ _ _ c.object_at.ensures.sound is at) in
    elim c.else-found-eq0.either [
      | inl both ↦ both.1 there.0
      | inr apart ↦ apart (let sum = there.1 in omega (arith, sum, at))
    ])
