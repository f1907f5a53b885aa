use Rattle.std.proofs.Common.{◌+◌, ◌<◌, ◌≤◌, length, arith}
use Rattle.history_object.specs.ObjectBytes.{effect}
use Rattle.history_parts.proofs.Gathered.{more_of_front, product_all, product_one}
use Rattle.history_parts.proofs.product.product.Goals as goal

pub loop-place-preserved : goal.loop-place-preserved
loop-place-preserved c =
    product_one effect c.args.kept.now c.args.stores.now c.loop-place.place c.loop-place.all c.add_after_each.new.all c.get.result.now c.get.ensures
    c.in_ok-add_after_each.ensures c.loop-place.invariant

pub returns-clause-all : goal.returns-clause-all
returns-clause-all c =
    let len = c.len-place-end.ensures.value in
    let end = c.loop-place-test.false in
    let past : length c.args.kept.now ≤ c.loop-place.place = omega (arith, len, end) in
    product_all effect c.args.kept.now c.args.stores.now c.loop-place.place c.loop-place.all past c.loop-place.invariant

pub returns-then-len-most-clause-many : goal.returns-then-len-most-clause-many
returns-then-len-most-clause-many c = λ _.
    let len = c.len.ensures.value in
    let more = c.if-len-most.true in
    let all = c.add_after_each.new.all in
    let past : c.args.most < length all = omega (arith, len, more) in
    more_of_front effect c.args.kept.now c.args.stores.now (c.loop-place.place + 1) c.args.most all
    (product_one effect c.args.kept.now c.args.stores.now c.loop-place.place c.loop-place.all all c.get.result.now c.get.ensures c.in_ok-add_after_each.ensures
    c.loop-place.invariant) c.distinct.ensures past
