use Rattle.std.proofs.Common.{◌≡◌, ◌*◌, ◌<◌, ◌≤◌, ℕ, ap, arith, length, rules, sym}
use Rattle.std.proofs.lemmas.List.{take_rest}
use Rattle.text_fields.specs.Bases.{radix}
use Rattle.text_fields.specs.Quick.{most_digits}
use Rattle.text_fields.proofs.QuickFields.{below_power, one_fits, one_read, value_spelt}
use Rattle.text_fields.proofs.quick.digits.Goals as goal

pub overflow_mul-value : goal.overflow_mul-value
overflow_mul-value c =
    let few : c.loop-place.place < most_digits c.args.base = search rules in
    let within : c.loop-place.place < length c.args.text.now = search rules in
    let product : c.loop-place.value * c.radix.result ≡ c.loop-place.value * radix c.args.base = ap (λ (r : ℕ). c.loop-place.value * r) c.radix.ensures in
    omega (arith, product, one_fits c.args.base c.args.text.now c.loop-place.place c.loop-place.value c.in-Some.next within few (sym c.in-Some.ensures) c.loop-place.invariant.read)

pub overflow_add-value : goal.overflow_add-value
overflow_add-value c =
    let few : c.loop-place.place < most_digits c.args.base = search rules in
    let within : c.loop-place.place < length c.args.text.now = search rules in
    let product : c.loop-place.value * c.radix.result ≡ c.loop-place.value * radix c.args.base = ap (λ (r : ℕ). c.loop-place.value * r) c.radix.ensures in
    omega (arith, product, c.from.ensures, one_fits c.args.base c.args.text.now c.loop-place.place c.loop-place.value c.in-Some.next within few (sym c.in-Some.ensures) c.loop-place.invariant.read)

pub loop-place-preserved : goal.loop-place-preserved
loop-place-preserved c =
    let within : c.loop-place.place < length c.args.text.now = search rules in
    record {
      most = omega (arith, c.loop-place-test.true);
      read = rw (c.from.ensures, c.radix.ensures) (one_read c.args.base c.args.text.now c.loop-place.place c.loop-place.value c.in-Some.next within (sym c.in-Some.ensures) c.loop-place.invariant.read);
    }

pub returns-clause-spelt : goal.returns-clause-spelt
returns-clause-spelt c =
    let few : c.loop-place.place ≤ most_digits c.args.base = search rules in
    rw (take_rest c.args.text.now c.loop-place.place) (value_spelt c.args.base c.args.text.now c.loop-place.place c.loop-place.value
    (c.spell_number.ensures.some c.if-not-spell_number.false) few c.loop-place.invariant.read (c.spell_number.ensures.first c.if-not-spell_number.false))

pub returns-clause-below : goal.returns-clause-below
returns-clause-below c =
    let few : c.loop-place.place ≤ c.args.most = search rules in
    below_power c.args.base c.loop-place.value c.loop-place.place c.args.most c.loop-place.invariant.read.below few
