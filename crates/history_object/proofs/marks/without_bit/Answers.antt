use Rattle.std.proofs.Common.{refl, arith, w64}
use Rattle.std.proofs.lemmas.Nat.Bits.{bit_at_clear_same, bit_at_clear_other}
use Rattle.history_object.proofs.marks.without_bit.Goals as goal

pub returns-clause-here : goal.returns-clause-here
returns-clause-here c = rw (bit_at_clear_same w64 c.args.word c.args.i (omega arith)) refl

pub returns-clause-others : goal.returns-clause-others
returns-clause-others c = λ k below apart. bit_at_clear_other w64 c.args.word c.args.i (omega arith) k below apart
