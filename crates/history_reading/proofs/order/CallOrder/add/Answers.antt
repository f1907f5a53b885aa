use Rattle.std.proofs.Common.{◌≡◌, false, rules, sym, ◌∙◌}
use Rattle.history_reading.specs.CallOrders.{end_of, may_begin}
use Rattle.history_reading.specs.CallWords.{plain_call}
use Rattle.history_reading.proofs.CallOrders.{begins_too_early, worker_is_busy}
use Rattle.history_reading.proofs.order.CallOrder.add.Goals as goal
use Rattle.history_reading.proofs.order.CallOrder.add.Goals.{then-call-self-via-then-call-self, then-call-self-via-else-call-self+then-not-may_begin}

pub returns-then-call-self-clause-tested : goal.returns-then-call-self-clause-tested
returns-then-call-self-clause-tested c = λ calls is.
    let call = c.args.call.now in
    elim c.then-call-self.branch [
      | then-call-self-via-then-call-self w ↦ begins_too_early c.args.self.now calls (plain_call call) is w.if-call-self.true
      | then-call-self-via-else-call-self+then-not-may_begin w ↦
          let busy : may_begin (end_of c.args.self.now call.entry.worker) call.begin ≡ false = sym w.may_begin.ensures ∙ search rules in
          worker_is_busy c.args.self.now calls (plain_call call) is busy
    ]
