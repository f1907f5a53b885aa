use Rattle.std.proofs.Common.{◌≤◌, ◌<◌, arith, rules}
use Rattle.text_words.proofs.Addresses.{digits_told, one_digit}
use Rattle.text_words.proofs.answers.+push_address.Goals as goal

pub returns-then-address-lt16-clause-digits : goal.returns-then-address-lt16-clause-digits
returns-then-address-lt16-clause-digits t c =
    let low : c.args.address < 16 = search rules in rw (one_digit c.args.address low) (search rules)

pub returns-clause-digits : goal.returns-clause-digits
returns-clause-digits t c =
    let high : 16 ≤ c.args.address = omega (arith, c.if-address-lt16.false) in
    digits_told _ _ _ _ _ high c.ranges.address.fits c.push_address.ensures.digits c.digit-2.ensures c.push_reserved-2.ensures.items
