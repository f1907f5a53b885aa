use Rattle.std.proofs.Common.{sym, ◌∙◌, arith, rules}
use Rattle.explore_otherwise.specs.Fences.{waits_at_fence}
use Rattle.otherwise_report.proofs.CountedEnds.{none_more, none_passes, some_passes}
use Rattle.otherwise_report.proofs.timing.is_waiting.Goals as goal

pub returns-then-branch : goal.returns-then-branch
returns-then-branch c =
    sym (some_passes (waits_at_fence c.args.at.now.setting c.args.at.now.state) 0 c.args.meshers c.loop-mesher.mesher (omega arith) (search rules)
    (sym c.in_ok-waits_at_fence.ensures ∙ c.if-branch.true))

pub loop-mesher-preserved : goal.loop-mesher-preserved
loop-mesher-preserved c = none_more (waits_at_fence c.args.at.now.setting c.args.at.now.state) c.loop-mesher.mesher c.in_ok-waits_at_fence.field-0
    c.loop-mesher.invariant c.in_ok-waits_at_fence.ensures c.if-branch.false

pub returns : goal.returns
returns c =
    sym (none_passes (waits_at_fence c.args.at.now.setting c.args.at.now.state) 0 c.args.meshers
    (λ k lt. c.loop-mesher.invariant k (omega (arith, lt, c.loop-mesher-test.false))))
