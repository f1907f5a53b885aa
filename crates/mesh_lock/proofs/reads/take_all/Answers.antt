use Rattle.std.proofs.Common.{◌≡◌, ◌<◌, ◌≤◌, List, Bool, false, sym, ◌∙◌, subst, arith, [], length}
use Rattle.model_memory.specs.Reads.{Kept}
use Rattle.mesh_lock.specs.Walk.{IsLeft, IsTakenTo, StopsAt, left_of}
use Rattle.mesh_lock.proofs.TakenReads.{is_left, left_more, left_none}
use Rattle.mesh_lock.proofs.BuiltHistories.{taken_up_to_none, taken_up_to_more, taken_up_to_all, index_any}
use Rattle.mesh_lock.proofs.reads.take_all.Goals as goal

pub loop-w-init : goal.loop-w-init
loop-w-init c = record { taken = taken_up_to_none _ _ _ _; left = left_none _ _ _ }

pub loop-w-preserved : goal.loop-w-preserved
loop-w-preserved c =
    let m = c.args.plain.now in
    let below : c.loop-w.w < length c.args.rests.now = (let t = c.loop-w-test.true in let l = c.loop-w.invariant.taken.many in let e = c.loop-w.auto.w-end in omega (arith, t, l, e)) in
    let inside : c.loop-w.w < length c.loop-w.rests = (let l = c.loop-w.invariant.taken.many in omega (arith, below, l)) in
    let is : c.calls.result.now ≡ left_of c.loop-w.rests c.loop-w.w = c.calls.ensures.calls ∙ index_any c.loop-w.rests c.loop-w.w c.index-rests-w.result [] inside in
    let was : c.calls.result.now ≡ left_of c.args.rests.now c.loop-w.w = is ∙ c.loop-w.invariant.left.others c.loop-w.w (omega arith) in
    let taken : IsTakenTo c.args.n c.loop-w.w m c.calls.result.now c.of.result c.loop-w.history.items c.take_reads.new.history.items =
    subst (λ (left : List Kept). IsTakenTo c.args.n c.loop-w.w m c.calls.result.now left c.loop-w.history.items c.take_reads.new.history.items) (sym c.of.ensures) c.in_ok-calls.ensures.taken in
    let stops : StopsAt c.args.n m false c.of.result =
    subst (λ (b : Bool). StopsAt c.args.n m b c.of.result) c.if-wrong.false (subst (λ (left : List Kept). StopsAt c.args.n m c.in_ok-calls.wrong left) (sym c.of.ensures) c.in_ok-calls.ensures.stops) in
    let here : IsLeft c.args.n m false (left_of c.args.rests.now c.loop-w.w) c.of.result =
    subst (λ (l : List Kept). IsLeft c.args.n m false l c.of.result) was (is_left _ _ _ _ _ _ _ _ taken stops) in
    record {
      taken = taken_up_to_more _ _ _ _ _ _ _ _ _ _ below c.loop-w.invariant.taken is taken;
      left = left_more _ _ _ _ _ _ inside c.loop-w.invariant.left here;
    }

pub returns-clause-left : goal.returns-clause-left
returns-clause-left c v below = c.loop-w.invariant.left.below v (let past = c.loop-w-test.false in omega (arith, below, past))

pub returns-clause-taken : goal.returns-clause-taken
returns-clause-taken c _ =
    let past : length c.args.rests.now ≤ c.loop-w.w = c.loop-w-test.false in
    taken_up_to_all c.args.n c.loop-w.w c.args.plain.now c.args.rests.now c.loop-w.rests c.args.history.now.items c.loop-w.history.items past c.loop-w.invariant.taken
