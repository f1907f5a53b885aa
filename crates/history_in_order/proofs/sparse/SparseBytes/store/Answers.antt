use Rattle.std.proofs.Common.{◌+◌, ◌<◌, ◌≤◌, length, arith}
use Rattle.std.proofs.lemmas.Bool.Decides.{nat_tests}
use Rattle.history_in_order.proofs.Overwritten.{run_stored}
use Rattle.history_in_order.proofs.sparse.SparseBytes.store.Goals as goal

pub loop-done-preserved : goal.loop-done-preserved
loop-done-preserved c =
    let i = c.loop-done.invariant in
    let k = c.loop-done.done in
    let n = c.first_run-run.result in
    let bytes = c.args.bytes.now in
    let below : k < length bytes = grind (arith, nat_tests) in
    let at = i.at below in
    let some = c.first_run-run.ensures.within in
    let within : k + n ≤ length bytes = omega (arith, some, below) in
    record {
      within = within;
      place = omega arith;
      at = λ more. let full = c.first_run-run.ensures.rest (omega (arith, more)) in omega (arith, at, full);
      stored = run_stored c.args.self.now c.loop-done.self c.store_run.new.self bytes k n c.args.start _ c.requires within at i.stored c.in_ok-store_run.ensures.stored;
    }
