use Rattle.std.proofs.Common.{◌≤◌, subst, sym, ◌∙◌}
use Rattle.savings_replay.proofs.NoneEmpty.{none_swept}
use Rattle.savings_replay.proofs.Swept.{swept_all, swept_more, swept_none}
use Rattle.savings_replay.specs.Placement.{Placement}
use Rattle.savings_replay.proofs.placement.Placement.sweep_empty.Goals as goal

pub returns-then-empty_pages-eq0 : goal.returns-then-empty_pages-eq0
returns-then-empty_pages-eq0 c = none_swept c.args.self.now c.sound.ensures.placement (sym c.empty_pages.ensures.value ∙ c.if-empty_pages-eq0.true)

pub loop-n-init : goal.loop-n-init
loop-n-init c = swept_none c.args.self.now

pub loop-n-preserved : goal.loop-n-preserved
loop-n-preserved c = swept_more c.args.self.now c.loop-n.self c.sweep.new.self c.loop-n.n c.sound-in-loop-n.ensures.placement c.loop-n.invariant c.sweep.ensures

pub returns : goal.returns
returns c = swept_all c.args.self.now c.loop-n.self c.loop-n.n c.sound-2.ensures.placement c.sound-2.ensures.index c.loop-n.invariant
    (subst (λ (p : Placement). p.next_page ≤ c.loop-n.n) c.self.view_is c.loop-n-test.false)
