-- What is kept of the calls so far tells whether the next one is in order.
use Rattle.std.proofs.Common.{◌≡◌, ◌<◌, ◌&&◌, Bool, true, false, nat_le, List, ap, refl, sym, ◌∙◌, arith, inl, inr}
use Rattle.std.specs.List.{list_all}
use Rattle.std.proofs.lemmas.Bool.Decides.{leb_tells}
use Rattle.model_intervals.specs.Intervals.{Call}
use Rattle.history_reading.specs.CallOrders.{IsOrderOf, end_of, may_begin}
use Rattle.history_reading.specs.CallReadings.{has_ended_before, is_in_order}
use Rattle.history_reading.specs.declared.order.CallOrder.{CallOrder}

order_by : (order : CallOrder) (calls : List Call) (call : Call) → IsOrderOf order calls
    → is_in_order calls call ≡ (nat_le order.last_begin call.begin && may_begin (end_of order call.entry.worker) call.begin)
order_by order calls call is =
    ap (λ (begun : Bool). begun && list_all (λ earlier. has_ended_before earlier call.entry.worker call.begin) calls) (is.begins call.begin)
    ∙ ap (λ (ended : Bool). nat_le order.last_begin call.begin && ended) (is.ends call.entry.worker call.begin)

second_fails : (first second : Bool) → second ≡ false → (first && second) ≡ false
second_fails true second is = is
second_fails false second is = refl

-- a call that begins before an earlier one is out of order
pub begins_too_early : (order : CallOrder) (calls : List Call) (call : Call) → IsOrderOf order calls → call.begin < order.last_begin → false ≡ is_in_order calls call
begins_too_early order calls call is early =
    let late : nat_le order.last_begin call.begin ≡ false = elim (leb_tells order.last_begin call.begin) [
      | inl begun ↦ (let b = begun.1 in absurd (omega (arith, b, early)))
      | inr not ↦ not.0
    ] in
    sym (order_by order calls call is ∙ ap (λ (begun : Bool). begun && may_begin (end_of order call.entry.worker) call.begin) late)

-- so is one that begins before an earlier one of its worker has ended
pub worker_is_busy : (order : CallOrder) (calls : List Call) (call : Call) → IsOrderOf order calls → may_begin (end_of order call.entry.worker) call.begin ≡ false
    → false ≡ is_in_order calls call
worker_is_busy order calls call is busy =
    sym (order_by order calls call is ∙ second_fails (nat_le order.last_begin call.begin) (may_begin (end_of order call.entry.worker) call.begin) busy)
