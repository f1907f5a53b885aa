use Rattle.std.proofs.Common.{◌<◌, ◌≡◌, Some, length, refl, sym, ◌∙◌, arith}
use Rattle.mesh_shared.proofs.WorkerRuns.{call_answered, gave_up, some_tries, worked_partly, worked_wholly}
use Rattle.mesh_shared.proofs.worker.work.Goals as goal

pub loop-i-init : goal.loop-i-init
loop-i-init g c = (rw c.requires.empty refl, λ none. refl)

pub retry_up_to-requires-clause-some : goal.retry_up_to-requires-clause-some
retry_up_to-requires-clause-some g c = some_tries c.args.most c.of-tries.result c.of-tries.ensures.most c.of-tries.ensures.made c.requires.tries

pub returns-in-Blocked : goal.returns-in-Blocked
returns-in-Blocked g c =
    let below : c.loop-i.i < length c.args.script.now = grind (arith, c.loop-i-test.true, c.loop-i.auto.i-end) in
    let all : c.args.most ≡ Some c.retry_up_to.new.tries.made
    = sym (c.in-Blocked.ensures.most ∙ c.of-tries.ensures.most) ∙ c.in-Blocked.ensures.spent refl in
    gave_up _ _ _ _ _ _ c.loop-i.invariant.0 c.in-Blocked.ensures.taken.0 below all (omega arith)

pub returns-in-HistoryFull : goal.returns-in-HistoryFull
returns-in-HistoryFull g c =
    let below : c.loop-i.i < length c.args.script.now = grind (arith, c.loop-i-test.true, c.loop-i.auto.i-end) in
    worked_partly c.args.most c.loop-i.i c.args.script.now c.loop-i.seat c.retry_up_to.new.seat _ _ c.loop-i.invariant.0 c.in-HistoryFull.ensures.taken below

pub returns-in-OutOfMemory : goal.returns-in-OutOfMemory
returns-in-OutOfMemory g c =
    let below : c.loop-i.i < length c.args.script.now = grind (arith, c.loop-i-test.true, c.loop-i.auto.i-end) in
    worked_partly c.args.most c.loop-i.i c.args.script.now c.loop-i.seat c.retry_up_to.new.seat _ _ c.loop-i.invariant.0 c.in-OutOfMemory.ensures.taken.0 below

pub loop-i-preserved : goal.loop-i-preserved
loop-i-preserved g c =
    let below : c.loop-i.i < length c.args.script.now = grind (arith, c.loop-i-test.true, c.loop-i.auto.i-end) in
    (call_answered _ _ _ _ _ _ _ c.loop-i.invariant.0 below c.index-script-i.is c.in-Done.ensures.taken.1, λ none. absurd (omega (arith, none)))

pub returns : goal.returns
returns g c = worked_wholly c.args.most c.loop-i.i c.args.script.now c.loop-i.seat.calls _ c.loop-i.invariant.0 (grind (arith, c.loop-i-test.false)) c.loop-i.auto.i-end c.loop-i.invariant.1
