use Rattle.std.proofs.Common.{◌+◌, ◌<◌, ◌≤◌, length, arith, refl}
use Rattle.std.proofs.lemmas.Bool.Decides.{nat_tests}
use Rattle.history_in_order.proofs.Runs.{run_of_same, run_same}
use Rattle.history_in_order.proofs.sparse.SparseBytes.has.Goals as goal

pub returns-then-not-are_equal : goal.returns-then-not-are_equal
returns-then-not-are_equal c =
    let i = c.loop-done.invariant in
    let k = c.loop-done.done in
    let n = c.first_run-run.result in
    let bytes = c.args.bytes.now in
    let below : k < length bytes = grind (arith, nat_tests) in
    let at = i.at below in
    let some = c.first_run-run.ensures.within in
    let within : k + n ≤ length bytes = omega (arith, some, below) in
    (λ never. absurd (cc never), λ same. c.if-not-are_equal.ensures.1 (run_of_same c.args.self.now bytes c.run.result.now c.args.start _ k n c.requires within at c.run.ensures same))

pub loop-done-preserved : goal.loop-done-preserved
loop-done-preserved c =
    let i = c.loop-done.invariant in
    let k = c.loop-done.done in
    let n = c.first_run-run.result in
    let bytes = c.args.bytes.now in
    let below : k < length bytes = grind (arith, nat_tests) in
    let at = i.at below in
    let some = c.first_run-run.ensures.within in
    let within : k + n ≤ length bytes = omega (arith, some, below) in
    record {
      within = within;
      place = omega arith;
      at = λ more. let full = c.first_run-run.ensures.rest (omega (arith, more)) in omega (arith, at, full);
      same = run_same c.args.self.now bytes c.run.result.now c.args.start _ k n c.requires within at i.same c.run.ensures (c.if-not-are_equal.ensures.0 refl);
    }
