use Rattle.std.proofs.Common.{List, length, map, ap, ◌∙◌}
use Rattle.std.specs.Global.{Vec}
use Rattle.std.specs.Prelude.{ℕ, ◌≡◌}
use Rattle.std.specs.List.{range_with_len}
use Rattle.std.specs.List.Sorted.{IsPermutation}
use Rattle.std.proofs.lemmas.Result.{IfOk-weaker}
use Rattle.history_reading.specs.CallWords.{plain_call}
use Rattle.history_overlaps.specs.Orders.{calls_in_order}
use Rattle.history_overlaps.specs.Points.{AreSortedByPoints}
use Rattle.history_overlaps.specs.declared.keys.Key.{Key}
use Rattle.history_overlaps.proofs.InOrder.{order_sorted}
use Rattle.history_overlaps.proofs.KeyOrder.{keys_rise}
use Rattle.history_overlaps.proofs.KeyedCalls.{order_by_points}
use Rattle.history_overlaps.proofs.keys.order_by.Goals as goal

pub returns-clause-each : goal.returns-clause-each
returns-clause-each c =
    let number = λ (key : Key). key.number in
    let sorted = c.sort_unstable.new.self.items in
    IfOk-weaker c.numbers_of.result (λ (numbers : Vec ℕ). numbers.items ≡ map number c.as_slice.result.now)
    (λ (order : Vec ℕ). IsPermutation (range_with_len 0 (length c.args.calls.now)) order.items)
    (λ order is. order_sorted number c.in_ok-keys.keys.items sorted (length c.args.calls.now) order.items c.in_ok-keys.ensures.numbers c.sort_unstable.ensures.permutation
    (is ∙ ap (λ (keys : List Key). map number keys) c.as_slice.ensures.value)) c.numbers_of.ensures

pub returns-clause-keyed : goal.returns-clause-keyed
returns-clause-keyed c =
    let number = λ (key : Key). key.number in
    let calls = c.args.calls.now in
    let points = c.args.points.now in
    let sorted = c.sort_unstable.new.self.items in
    IfOk-weaker c.numbers_of.result (λ (numbers : Vec ℕ). numbers.items ≡ map number c.as_slice.result.now)
    (λ (order : Vec ℕ). AreSortedByPoints (map plain_call calls) points (calls_in_order calls order.items))
    (λ order is. order_by_points calls points c.in_ok-keys.keys.items sorted order.items c.in_ok-keys.ensures.numbers c.in_ok-keys.ensures.own c.sort_unstable.ensures.permutation
    (keys_rise sorted c.sort_unstable.ensures.sorted) (is ∙ ap (λ (keys : List Key). map number keys) c.as_slice.ensures.value)) c.numbers_of.ensures
