use Rattle.std.proofs.Common.{arith, refl}
use Rattle.std.proofs.lemmas.Bool.Decides.{nat_tests}
use Rattle.text_fields.proofs.DigitTable.{digit_entry, no_digit_entry}
use Rattle.text_fields.proofs.hex.digit.Goals as goal

pub returns-then-value-lt16-clause-value : goal.returns-then-value-lt16-clause-value
returns-then-value-lt16-clause-value c = digit_entry _ c.args.byte refl (omega arith) (grind (arith, nat_tests))

pub returns-else-value-lt16-clause-value : goal.returns-else-value-lt16-clause-value
returns-else-value-lt16-clause-value c = no_digit_entry _ c.args.byte refl (omega arith) (grind (arith, nat_tests))
