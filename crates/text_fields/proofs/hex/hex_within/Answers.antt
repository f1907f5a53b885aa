use Rattle.std.proofs.Common.{Ok, sym, ◌∙◌, ap, rules, arith, inl, inr}
use Rattle.std.proofs.lemmas.Bool.{true≢false}
use Rattle.text_fields.proofs.HexFields.{hex_spelt, leading_zero, no_digit, not_digits, too_great}
use Rattle.text_fields.proofs.hex.hex_within.Goals as goal

pub returns-then-is_empty-clause-value : goal.returns-then-is_empty-clause-value
returns-then-is_empty-clause-value c = λ more fits. sym (no_digit more c.args.most c.args.field.now (search rules))

pub returns-then-has_leading_zero-clause-value : goal.returns-then-has_leading_zero-clause-value
returns-then-has_leading_zero-clause-value c = λ more fits.
    let leads = c.has_leading_zero.ensures.0 c.if-has_leading_zero.true in sym (leading_zero more c.args.most c.args.field.now fits leads.0 leads.1)

pub returns-in_default-clause-value : goal.returns-in_default-clause-value
returns-in_default-clause-value c = λ more fits. elim (c.in_default.ensures.none (search rules)) [
  | inl other ↦ sym (not_digits more c.args.most c.args.field.now other)
  | inr large ↦ sym (too_great more c.args.most c.args.field.now (omega (arith, large)))
]

pub returns-then-value-most-clause-value : goal.returns-then-value-most-clause-value
returns-then-value-most-clause-value c = λ more fits. sym (too_great more c.args.most c.args.field.now (omega (arith, c.in-Some.ensures.value)))

pub returns-clause-value : goal.returns-clause-value
returns-clause-value c = λ more fits.
    let spelt = hex_spelt more c.args.most c.args.field.now fits (search rules)
    (λ leads. true≢false (sym (c.has_leading_zero.ensures.1 leads) ∙ c.if-has_leading_zero.false)) c.in-Some.ensures.digits (omega (arith, c.in-Some.ensures.value)) in
    ap Ok c.in-Some.ensures.value ∙ sym spelt
