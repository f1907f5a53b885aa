use Rattle.std.proofs.Common.{◌+◌, List, ℕ, ap, arith, take}
use Rattle.std.proofs.lemmas.List.{take_all}
use Rattle.history_reading.specs.CallWords.{plain_call}
use Rattle.history_overlaps.specs.Orders.{calls_in_order}
use Rattle.history_overlaps.proofs.InOrder.{in_order_more}
use Rattle.history_overlaps.proofs.OrderTexts.{all_lines, line_more}
use Rattle.history_overlaps.proofs.texts.written_in_order.Goals as goal

pub loop-number-preserved : goal.loop-number-preserved
loop-number-preserved c =
    let calls = c.args.calls.now in
    let order = c.args.order.now in
    let i = c.loop-number.number-index in
    let call = c.index-calls-number.result in
    let more = in_order_more calls order i call (omega arith) (c.requires.places i 0 (omega arith)) c.index-calls-number.is in
    line_more (calls_in_order calls (take i order)) (calls_in_order calls (take (i + 1) order)) (plain_call call) c.loop-number.text.items c.add_entry.new.text.items
    c.loop-number.invariant more c.in_ok-add_entry.ensures

pub returns : goal.returns
returns c =
    let order = c.args.order.now in
    let i = c.loop-number.number-index in
    let calls = c.args.calls.now in
    all_lines (calls_in_order calls (take i order)) (calls_in_order calls order) c.loop-number.text.items c.loop-number.invariant
    (ap (λ (some : List ℕ). calls_in_order calls some) (take_all i order c.loop-number-test.false))
