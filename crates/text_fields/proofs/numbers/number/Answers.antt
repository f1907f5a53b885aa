use Rattle.std.proofs.Common.{rules, arith, sym}
use Rattle.std.proofs.lemmas.Bool.{le-leb, lt-leb}
use Rattle.text_fields.proofs.Decimals.{number_spelt, number_unspelt}
use Rattle.text_fields.proofs.numbers.number.Goals as goal

pub returns-in_default-clause-value : goal.returns-in_default-clause-value
returns-in_default-clause-value c = sym (number_unspelt c.args.least c.args.most c.args.field.now (omega arith) (c.in_default.ensures.none (search rules)))

pub returns-then-number-least-clause-value : goal.returns-then-number-least-clause-value
returns-then-number-least-clause-value c =
    let spelt = number_spelt c.args.least c.args.most c.args.field.now c.in-Some.number (omega arith) c.in-Some.ensures.some in
    sym (rw (lt-leb c.args.least c.in-Some.number c.if-number-least.true) at spelt)

pub returns-then-number-most-clause-value : goal.returns-then-number-most-clause-value
returns-then-number-most-clause-value c =
    let spelt = number_spelt c.args.least c.args.most c.args.field.now c.in-Some.number (omega arith) c.in-Some.ensures.some in
    sym (rw (le-leb c.args.least c.in-Some.number c.if-number-least.false, lt-leb c.in-Some.number c.args.most c.if-number-most.true) at spelt)

pub returns-clause-value : goal.returns-clause-value
returns-clause-value c =
    let spelt = number_spelt c.args.least c.args.most c.args.field.now c.in-Some.number (omega arith) c.in-Some.ensures.some in
    sym (rw (le-leb c.args.least c.in-Some.number c.if-number-least.false, le-leb c.in-Some.number c.args.most c.if-number-most.false) at spelt)
