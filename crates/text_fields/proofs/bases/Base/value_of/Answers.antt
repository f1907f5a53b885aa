use Rattle.std.proofs.Common.{◌≡◌, ◌+◌, ◌*◌, take, arith, inr, refl, rules, sym}
use Rattle.text_fields.proofs.Digits.{one_more_at_most}
use Rattle.text_fields.specs.Bases.{radix, value_in}
use Rattle.text_fields.proofs.bases.Base.value_of.Goals as goal

pub returns-in_err-value-clause-none : goal.returns-in_err-value-clause-none
returns-in_err-value-clause-none c = λ _.
    let whole = one_more_at_most c.args.self c.args.digits.now c.loop-byte.byte-index c.in_ok-next.next c.loop-byte-test.true (sym c.in_ok-next.ensures) in
    let sum : c.loop-byte.value * c.radix.result + c.in_ok-next.next ≡ value_in c.args.self (take c.loop-byte.byte-index c.args.digits.now) * radix c.args.self + c.in_ok-next.next =
    rw (c.loop-byte.invariant.value, c.radix.ensures) refl in
    inr (omega (arith, whole, sum, c.in_err-value.ensures.none (search rules)))
