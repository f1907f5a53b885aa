use Rattle.std.proofs.Common.{arith}
use Rattle.mesh_bins.proofs.WordLemmas.{passed_start}
use Rattle.mesh_bins.proofs.words.least_of.Goals as goal

pub loop-place-init : goal.loop-place-init
loop-place-init c = record { small = omega arith; start = omega arith; passed = passed_start c.args.words.now c.args.from }

pub loop-place-preserved : goal.loop-place-preserved
loop-place-preserved c = grind arith

pub returns-in-Some : goal.returns-in-Some
returns-in-Some c = grind arith

pub returns : goal.returns
returns c = λ m above below.
    c.loop-place.invariant.passed m above (omega (arith, below, c.loop-place-test.false))
