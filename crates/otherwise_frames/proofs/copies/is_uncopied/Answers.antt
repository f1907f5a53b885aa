use Rattle.std.proofs.Common.{sym, ◌∙◌, arith, rules}
use Rattle.model_memory.specs.Memory.{next_serial}
use Rattle.otherwise_frames.specs.Copies.{misses}
use Rattle.otherwise_frames.proofs.Passing.{none_more, none_passes, some_passes}
use Rattle.otherwise_frames.proofs.copies.is_uncopied.Goals as goal

pub returns-then-misses : goal.returns-then-misses
returns-then-misses c =
    sym (some_passes (misses c.args.memory.now c.args.spots.now c.args.mesh.now c.args.slot)
    (next_serial c.args.memory.now) c.loop-serial.serial (search rules) (sym c.misses.ensures ∙ c.if-misses.true))

pub loop-serial-preserved : goal.loop-serial-preserved
loop-serial-preserved c =
    none_more (misses c.args.memory.now c.args.spots.now c.args.mesh.now c.args.slot)
    c.loop-serial.serial c.misses.result c.loop-serial.invariant c.misses.ensures c.if-misses.false

pub returns : goal.returns
returns c =
    sym (none_passes (misses c.args.memory.now c.args.spots.now c.args.mesh.now c.args.slot)
    0 (next_serial c.args.memory.now) (λ k lt. c.loop-serial.invariant k (omega (arith, lt, c.loop-serial-test.false, c.next_serial-serial-end.ensures))))
