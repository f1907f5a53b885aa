use Rattle.std.proofs.Common.{length, sym, arith, rules}
use Rattle.otherwise_frames.specs.Copies.{differs_at}
use Rattle.otherwise_frames.proofs.Passing.{none_passes, some_passes}
use Rattle.otherwise_frames.proofs.copies.differs.Goals as goal

pub returns-then-byte_at-bytes : goal.returns-then-byte_at-bytes
returns-then-byte_at-bytes c =
    sym (some_passes (differs_at c.args.spots.now c.args.mesh.now c.args.offset c.args.bytes.now)
    (length c.args.bytes.now) c.loop-k.k (search rules) (search rules))

pub returns : goal.returns
returns c =
    sym (none_passes (differs_at c.args.spots.now c.args.mesh.now c.args.offset c.args.bytes.now)
    0 (length c.args.bytes.now) (λ k lt. c.loop-k.invariant k (omega (arith, lt, c.loop-k-test.false, c.loop-k.auto.k-end))))
