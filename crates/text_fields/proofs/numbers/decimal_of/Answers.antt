use Rattle.std.proofs.Common.{arith, rules}
use Rattle.text_fields.proofs.Decimals.{digits_spell, no_byte, other_bytes, too_many, zero_first}
use Rattle.text_fields.proofs.numbers.decimal_of.Goals as goal

pub returns-then-is_empty-clause-none : goal.returns-then-is_empty-clause-none
returns-then-is_empty-clause-none c = λ _. no_byte c.args.field.now (search rules)

pub returns-then-has_leading_zero-clause-none : goal.returns-then-has_leading_zero-clause-none
returns-then-has_leading_zero-clause-none c = λ _.
    let leads = c.has_leading_zero.ensures.0 c.if-has_leading_zero.true in zero_first c.args.field.now leads.0 leads.1

pub returns-in_err-number-clause-none : goal.returns-in_err-number-clause-none
returns-in_err-number-clause-none c = grind (arith, other_bytes, too_many)

pub returns-clause-some : goal.returns-clause-some
returns-clause-some c = grind (arith, digits_spell)
