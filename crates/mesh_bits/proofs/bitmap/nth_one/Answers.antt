use Rattle.std.proofs.Common.{◌<◌, ◌-◌, arith, w64}
use Rattle.std.specs.Int.{trailing_zeros}
use Rattle.std.proofs.lemmas.Nat.{and_le_l}
use Rattle.std.proofs.lemmas.Nat.Bits.{bit_at-trailing_zeros}
use Rattle.mesh_bits.proofs.BitsLemmas.{is_lowered, low_ones_below, low_ones_none, lowered_count}
use Rattle.mesh_bits.proofs.bitmap.nth_one.Goals as goal

pub loop-gone-init : goal.loop-gone-init
loop-gone-init c = grind arith

pub loop-gone-preserved : goal.loop-gone-preserved
loop-gone-preserved c =
    let was = c.loop-gone.invariant in
    let fits = was.fits in
    let some : 0 < c.loop-gone.rest = omega (arith, c.if-rest-eq0.false) in
    let count = was.count in
    record {
      fits = omega (arith, and_le_l c.loop-gone.rest (c.loop-gone.rest - 1), fits);
      count = omega (arith, count, lowered_count 64 c.loop-gone.rest some fits);
      is = λ k bit. was.is k ((is_lowered k c.loop-gone.rest some).is bit);
      place = λ k bit.
          let one = is_lowered k c.loop-gone.rest some in
          omega (arith, one.place bit, was.place k (one.is bit));
    }

pub returns-then-rest-eq0-clause-none : goal.returns-then-rest-eq0-clause-none
returns-then-rest-eq0-clause-none c = grind (arith, low_ones_none)

pub returns-then-rest-eq0-2-clause-none : goal.returns-then-rest-eq0-2-clause-none
returns-then-rest-eq0-2-clause-none c = grind (arith, low_ones_none)

pub returns-clause-one : goal.returns-clause-one
returns-clause-one c = grind (arith, bit_at-trailing_zeros w64 c.loop-gone.rest (omega (arith, c.if-rest-eq0-2.false)))

pub returns-clause-place : goal.returns-clause-place
returns-clause-place c =
    let was = c.loop-gone.invariant in
    let lowest = bit_at-trailing_zeros w64 c.loop-gone.rest (omega (arith, c.if-rest-eq0-2.false)) was.fits in
    let place = was.place (trailing_zeros w64 c.loop-gone.rest) lowest.1 in
    omega (arith, low_ones_below (trailing_zeros w64 c.loop-gone.rest) c.loop-gone.rest lowest.2, place, c.loop-gone-test.false)
