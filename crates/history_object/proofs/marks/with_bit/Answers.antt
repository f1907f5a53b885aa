use Rattle.std.proofs.Common.{refl, arith, w64}
use Rattle.std.proofs.lemmas.Nat.Bits.{bit_at_set_same, bit_at_set_other}
use Rattle.history_object.proofs.marks.with_bit.Goals as goal

pub returns-clause-here : goal.returns-clause-here
returns-clause-here c = rw (bit_at_set_same w64 c.args.word c.args.i (omega arith)) refl

pub returns-clause-others : goal.returns-clause-others
returns-clause-others c = λ k below apart. bit_at_set_other w64 c.args.word c.args.i (omega arith) k apart
