use Rattle.std.proofs.Common.{◌≡◌, Bool, false, refl, ◌∙◌, arith}
use Rattle.std.specs.Bool.{IsTrue}
use Rattle.mesh_lock.specs.CallBudgets.{IsUsedUp}
use Rattle.mesh_shared.proofs.MesherCounts.{none_is_counted, round_is_counted, rounds_are_left}
use Rattle.mesh_shared.proofs.mesher.Mesher.make_rounds.Goals as goal
use Rattle.mesh_shared.proofs.mesher.Mesher.make_rounds.Goals.{then-is_whole, else-is_whole}

not_told : (b : Bool) → b ≡ false → IsTrue b → ⊥
not_told b is told = cc

pub loop-round-init : goal.loop-round-init
loop-round-init g c = (refl, omega arith, λ left. refl, none_is_counted _ _ _ _ c.requires.none)

pub loop-round-preserved : goal.loop-round-preserved
loop-round-preserved g c =
    let kept = c.in-Ok.ensures.counted.most in
    let was = c.loop-round.invariant in
    let before : IsUsedUp c.loop-round.calls.budget → ⊥ = λ over. not_told _ c.if-is_used_up.false (c.is_used_up.ensures.1 over) in
    let counted = round_is_counted _ c.loop-round.round _ _ before (omega arith) was.3 c.in-Ok.ensures.counted in
    elim c.if-is_whole.branch [
      | then-is_whole w ↦ (
        kept ∙ was.0,
        (let is = w.whole-is in let below = was.1 in omega (arith, is, below)),
        (λ left. (let is = w.whole-is in let same = was.2 before in omega (arith, is, same))),
        counted,
      )
      | else-is_whole w ↦ (
        kept ∙ was.0,
        (let is = w.whole-is in let below = was.1 in omega (arith, is, below)),
        (λ left. absurd (not_told _ w.if-is_whole.false (c.is_whole.ensures.1 (c.in-Ok.ensures.round, c.in-Ok.ensures.whole left)))),
        counted,
      )
    ]
