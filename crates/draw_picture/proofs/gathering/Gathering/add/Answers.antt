use Rattle.std.proofs.Common.{arith, refl}
use Rattle.draw_picture.proofs.Captions.{appended, merged}
use Rattle.draw_picture.proofs.gathering.Gathering.add.Goals as goal

pub returns-then-repeats-clause-ends : goal.returns-then-repeats-clause-ends
returns-then-repeats-clause-ends c =
    merged _ _ _ c.args.line.now (omega (arith, c.in-Some.ensures.variant.0 refl))
    (record { to = c.in_ok-caption.ensures.to; words = c.in_ok-caption.ensures.words; answer = c.in_ok-caption.ensures.answer })

pub returns-clause-ends : goal.returns-clause-ends
returns-clause-ends c =
    appended c.add_behind.result c.add_behind.new.self.captions.items c.in_ok-caption.caption c.args.line.now c.in_ok-caption.ensures c.add_behind.ensures.ends
