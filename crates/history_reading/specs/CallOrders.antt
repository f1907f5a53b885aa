-- What is stored of the calls so far, to decide whether the next one is in order.
use Rattle.std.specs.Prelude.{◌≡◌, ℕ, nat_le, nat_lt, Bool, true, List, Option, Some, None}
use Rattle.std.specs.BTreeMap.{get}
use Rattle.std.specs.List.{list_all}
use Rattle.std.specs.Ordering.{nat_cmp}
use Rattle.model_intervals.specs.Intervals.{Call}
use Rattle.history_reading.specs.CallReadings.{has_ended_before}
use Rattle.history_reading.specs.declared.order.CallOrder.{CallOrder}

-- whether a worker's call may begin at this moment: its last call, if there is one, ended before
abbrev pub may_begin : Option ℕ → ℕ → Bool
may_begin None begin = true
may_begin (Some end) begin = nat_lt end begin

-- when the last call of a worker ended, if there is one
abbrev pub end_of : CallOrder → ℕ → Option ℕ
end_of order worker = get nat_cmp order.ends worker

-- the order stores the greatest begin of these calls, and the greatest end of each worker's calls
pub record IsOrderOf (order : CallOrder) (calls : List Call) : Type 0 where
  pub begins : (begin : ℕ) → list_all (λ earlier. nat_le earlier.begin begin) calls ≡ nat_le order.last_begin begin
  pub ends : (worker begin : ℕ) → list_all (λ earlier. has_ended_before earlier worker begin) calls ≡ may_begin (end_of order worker) begin
