use Rattle.std.proofs.Common.{ℕ, List, map, take, arith, sym, subst}
use Rattle.std.specs.BTreeMap.{get}
use Rattle.std.specs.Ordering.{nat_cmp}
use Rattle.model_intervals.specs.Intervals.{Call}
use Rattle.history_reading.specs.CallWords.{plain_call}
use Rattle.history_overlaps.specs.OwnOrders.{AreGrouped, IsAdded}
use Rattle.history_overlaps.proofs.Grouping.{calls_more, calls_so_many, grouped_more, grouped_same}
use Rattle.history_overlaps.proofs.accesses.accesses_by_cell.Goals as goal
use Rattle.history_overlaps.proofs.accesses.accesses_by_cell.Goals.{in-Some+in_ok-add_access, in_default}

pub loop-number-preserved : goal.loop-number-preserved
loop-number-preserved c =
    let calls = c.args.calls.now in
    let n = c.loop-number.number in
    let call = c.index-calls-number.result in
    let before = map plain_call (take n calls) in
    let more = calls_more calls n call (omega arith) c.index-calls-number.is in
    let many = calls_so_many calls n (omega arith) in
    subst (λ (some : List Call). AreGrouped some (get nat_cmp c.match-accessed_cell.accesses)) (sym more)
    (elim c.match-accessed_cell.branch [
      | in-Some+in_ok-add_access w ↦ rw w.accesses-is (grouped_more before (plain_call call) (get nat_cmp c.loop-number.accesses) (get nat_cmp w.add_access.new.accesses) w.in-Some.cell
          w.in-Some.ensures.0 w.in-Some.ensures.1 c.loop-number.invariant
          (subst (λ (count : ℕ). IsAdded (get nat_cmp c.loop-number.accesses) (get nat_cmp w.add_access.new.accesses) w.in-Some.cell count) (sym many) w.in_ok-add_access.ensures))
      | in_default w ↦ rw w.accesses-is (grouped_same before (plain_call call) (get nat_cmp c.loop-number.accesses) w.in_default.ensures c.loop-number.invariant)
    ])
