-- Fields that are read digit by digit, with the bytes behind them.
use Rattle.std.proofs.Common.{◌≡◌, ℕ, ◌+◌, ◌*◌, ◌^◌, ◌<◌, ◌≤◌, true, ◌&&◌, nat_le, List, [], ◌∷◌, ◌++◌, Some, Ok, length, get_or, take, drop, ap, refl, sym, ◌∙◌, arith, add-one, append_assoc}
use Rattle.std.specs.Fmt.{decimal}
use Rattle.std.specs.List.{list_all}
use Rattle.std.proofs.Math.Nat.{pow-suc, pow-le-pow_right}
use Rattle.std.proofs.lemmas.Bool.{and_parts}
use Rattle.std.proofs.lemmas.List.{take-append-drop}
use Rattle.std.proofs.lemmas.List.Concat.{flat_map-append}
use Rattle.std.proofs.lemmas.List.Folds.{list_all_more}
use Rattle.model_jobs.proofs.FieldReadings.{digit_told, digits_told, let_pass, same_by_test}
use Rattle.model_jobs.specs.JobFiles.{are_same, byte_from, hex_number}
use Rattle.model_jobs.specs.Texts.{byte_text, bytes_text, hex_from}
use Rattle.model_words.specs.declared.faults.FaultKind.TheVariants.{Number}
use Rattle.text_fields.specs.Bases.{digit_value, is_digit, radix, value_in}
use Rattle.text_fields.specs.Fields.{LeadsNoZero, hex_in}
use Rattle.text_fields.specs.declared.bases.Base.{Base}
use Rattle.text_fields.specs.declared.bases.Base.TheVariants.{Decimal, Hex}
use Rattle.text_fields.proofs.Decimals.{digits_spell}
use Rattle.text_fields.proofs.Digits.{decimal_digit_value, digit_is, one_more_digit}
use Rattle.text_fields.proofs.HexFields.{hex_spelt}
use Rattle.text_fields.proofs.Sames.{between_by_test}
use Rattle.text_fields.specs.Quick.{most_digits, spelling}

-- so many digits of a text were read to a number
pub record AreDigitsOf (base : Base) (text : List ℕ) (place number : ℕ) : Type 0 where
  pub digits : list_all (is_digit base) (take place text) ≡ true
  pub value : number ≡ value_in base (take place text)
  pub below : number < radix base ^ place

-- a digit of a base is below it
digit_below : (base : Base) (byte value : ℕ) → digit_value base byte ≡ Some value → value < radix base
digit_below Decimal byte value is =
    let ends = between_by_test 48 57 byte (digit_is Decimal byte value is) in omega (arith, ends.0, ends.1, decimal_digit_value byte value is)
digit_below Hex byte value is = (digit_told byte value is).1

-- one digit more makes a number below the next power
next_below : (base : Base) (place number value : ℕ) → number < radix base ^ place → value < radix base → number * radix base + value < radix base ^ (place + 1)
next_below Decimal place number value below small = omega (arith, below, small, pow-suc 10 place, ap (λ (k : ℕ). 10 ^ k) (add-one place))
next_below Hex place number value below small = omega (arith, below, small, pow-suc 16 place, ap (λ (k : ℕ). 16 ^ k) (add-one place))

-- one digit more
pub one_read : (base : Base) (text : List ℕ) (place number value : ℕ) → place < length text → digit_value base (get_or text place 0) ≡ Some value
    → AreDigitsOf base text place number → AreDigitsOf base text (place + 1) (number * radix base + value)
one_read base text place number value within is so_far = record {
  digits = list_all_more (is_digit base) text place 0 within ∙ rw (so_far.digits, digit_is base (get_or text place 0) value is) refl;
  value = ap (λ (n : ℕ). n * radix base + value) so_far.value ∙ sym (one_more_digit base text place value within is);
  below = next_below base place number value so_far.below (digit_below base (get_or text place 0) value is);
}

-- a number of no more digits than these is below the power of as many
pub below_power : (base : Base) (number place most : ℕ) → number < radix base ^ place → place ≤ most → number < radix base ^ most
below_power Decimal number place most below few = let power : 10 ^ place ≤ 10 ^ most = pow-le-pow_right (omega arith) few in omega (arith, below, power)
below_power Hex number place most below few = let power : 16 ^ place ≤ 16 ^ most = pow-le-pow_right (omega arith) few in omega (arith, below, power)

-- and fits 64 bits
pub fits_digits : (base : Base) (number place : ℕ) → number < radix base ^ place → place ≤ most_digits base → number < 2 ^ 64
fits_digits Decimal number place below few = omega (arith, below_power Decimal number place 19 below few)
fits_digits Hex number place below few = omega (arith, below_power Hex number place 12 below few)

-- with one digit more a number of fewer digits than these fits 64 bits
pub one_fits : (base : Base) (text : List ℕ) (place number value : ℕ) → place < length text → place < most_digits base
    → digit_value base (get_or text place 0) ≡ Some value → AreDigitsOf base text place number → number * radix base + value < 2 ^ 64
one_fits base text place number value within few is so_far =
    fits_digits base _ (place + 1) (one_read base text place number value within is so_far).below (omega (arith, few))

-- a field of hexadecimal digits that was read is the spelling of its number
hex_told : (more most : ℕ) (field : List ℕ) (number : ℕ) → hex_in more most field ≡ Ok number → field ≡ hex_from more number
hex_told more most field number read =
    let passed = let_pass Number (are_same (hex_from more (hex_number field)) field && nat_le (hex_number field) most) (hex_number field) number read in
    let parts = and_parts (are_same (hex_from more (hex_number field)) field) (nat_le (hex_number field) most) passed.0 in
    sym (same_by_test (hex_from more (hex_number field)) field parts.0) ∙ ap (hex_from more) passed.1

-- digits without a leading zero are the spelling of their value
number_spelt : (base : Base) (digits : List ℕ) (number place : ℕ) → 1 ≤ length digits → place ≤ most_digits base → list_all (is_digit base) digits ≡ true
    → number ≡ value_in base digits → number < radix base ^ place → LeadsNoZero digits → digits ≡ spelling base number
number_spelt Decimal digits number place some few are is below leads =
    digits_spell digits are some leads (omega (arith, is, fits_digits Decimal number place below few)) ∙ ap decimal (sym is)
number_spelt Hex digits number place some few are is below leads =
    let small = below_power Hex number place 12 below few in
    let read = hex_spelt 11 281474976710655 digits (omega arith) some leads are (omega (arith, is, small)) in
    hex_told 11 281474976710655 digits (hex_number digits) read ∙ ap (hex_from 11) (sym is)

pub value_spelt : (base : Base) (text : List ℕ) (place number : ℕ) → 1 ≤ length (take place text) → place ≤ most_digits base
    → AreDigitsOf base text place number → LeadsNoZero (take place text) → text ≡ spelling base number ++ drop place text
value_spelt base text place number some few read leads =
    sym (take-append-drop place text)
    ∙ ap (λ (front : List ℕ). front ++ drop place text) (number_spelt base (take place text) number place some few read.digits read.value read.below leads)

-- two digits are the spelling of their byte
pub byte_spelt : (text : List ℕ) (byte : ℕ) → 2 ≤ length text → byte_from (get_or text 0 0) (get_or text 1 0) ≡ Ok byte
    → (text ≡ byte_text byte ++ drop 2 text) × (byte ≤ 255)
byte_spelt text byte some is = grind (arith, digits_told)

-- one byte more
pub bytes_spelt_on : (text bytes rest : List ℕ) (byte : ℕ) → text ≡ bytes_text bytes ++ rest → 2 ≤ length rest
    → byte_from (get_or rest 0 0) (get_or rest 1 0) ≡ Ok byte → text ≡ bytes_text (bytes ++ byte ∷ []) ++ drop 2 rest
bytes_spelt_on text bytes rest byte so_far some is =
    let one = byte_spelt rest byte some is in
    so_far ∙ ap (λ (left : List ℕ). bytes_text bytes ++ left) one.0 ∙ sym (append_assoc (bytes_text bytes) (byte_text byte) (drop 2 rest))
    ∙ ap (λ (front : List ℕ). front ++ drop 2 rest) (sym (flat_map-append byte_text bytes (byte ∷ [])))
