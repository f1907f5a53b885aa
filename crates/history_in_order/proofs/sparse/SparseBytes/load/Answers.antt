use Rattle.std.proofs.Common.{◌+◌, ◌<◌, ◌≤◌, length, arith}
use Rattle.std.proofs.lemmas.Bool.Decides.{nat_tests}
use Rattle.history_in_order.proofs.Runs.{run_loaded}
use Rattle.history_in_order.proofs.sparse.SparseBytes.load.Goals as goal

pub loop-bytes-preserved : goal.loop-bytes-preserved
loop-bytes-preserved c =
    let i = c.loop-bytes.invariant in
    let k = length c.loop-bytes.bytes.items in
    let n = c.first_run-run.result in
    let below : k < c.args.len = grind (arith, nat_tests) in
    let at = i.at below in
    let within : k + n ≤ c.args.len = grind (arith, nat_tests) in
    let fits = c.requires.fits in
    let more = run_loaded c.args.self.now c.loop-bytes.bytes.items c.run.result.now c.extend.new.self.items c.args.start _ n (omega (arith, fits, within)) at i.loaded
    c.run.ensures c.in_ok-extend.ensures.bytes in
    let long = more.0 in
    record {
      within = omega (arith, long, within);
      place = omega arith;
      at = λ more. let full = c.first_run-run.ensures.rest (grind (arith, nat_tests)) in omega (arith, at, full, long);
      loaded = more.1;
    }
