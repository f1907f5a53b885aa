-- Numbers that digits are read to, the first first.
use Rattle.std.proofs.Common.{◌≡◌, ℕ, ◌+◌, ◌-◌, ◌*◌, ◌<◌, ◌≤◌, true, false, Bool, if◌then◌else◌, List, [], ◌∷◌, Some, None, length, get_or, take, drop, ap, refl, ◌∙◌, arith, add-one}
use Rattle.std.specs.Prelude.{is_some}
use Rattle.std.specs.List.{fold}
use Rattle.std.proofs.Math.Seq.{take-suc}
use Rattle.std.proofs.lemmas.List.{take-append-drop}
use Rattle.std.proofs.lemmas.List.Sums.{fold-append}
use Rattle.model_jobs.proofs.Fields.{with_digit}
use Rattle.model_jobs.proofs.FieldReadings.{digit_told}
use Rattle.model_jobs.specs.JobFiles.{with_decimal, with_hex}
use Rattle.text_fields.specs.Bases.{digit_value, is_digit, radix, value_in}
use Rattle.text_fields.specs.Fields.{is_decimal_digit}
use Rattle.text_fields.specs.declared.bases.Base.{Base}
use Rattle.text_fields.specs.declared.bases.Base.TheVariants.{Decimal, Hex}

-- the number of digits up to one is made of the number of those before it
pub next_value : (more : ℕ → ℕ → ℕ) (digits : List ℕ) (i : ℕ) → i < length digits → fold more 0 (take (i + 1) digits) ≡ more (fold more 0 (take i digits)) (get_or digits i 0)
next_value more digits i h =
    ap (λ (k : ℕ). fold more 0 (take k digits)) (add-one i) ∙ ap (fold more 0) (take-suc digits i 0 h) ∙ fold-append more 0 (take i digits) (get_or digits i 0 ∷ [])

-- one more digit makes no number smaller
module _ (more : ℕ → ℕ → ℕ) (up : (n digit : ℕ) → n ≤ more n digit) where
  -- digits that come behind only make a number greater
  pub grows : (n : ℕ) (digits : List ℕ) → n ≤ fold more n digits
  grows n [] = omega arith
  grows n (d ∷ ds) = omega (arith, up n d, grows (more n d) ds)

  -- the number of the first digits is that of all at most
  pub first_at_most : (digits : List ℕ) (count : ℕ) → fold more 0 (take count digits) ≤ fold more 0 digits
  first_at_most digits count =
      omega (
        arith,
        grows (fold more 0 (take count digits)) (drop count digits),
        fold-append more 0 (take count digits) (drop count digits),
        ap (fold more 0) (take-append-drop count digits),
      )

-- the value that a test gives a decimal digit
if_some : (b : Bool) (x v : ℕ) → (if b then Some x else None) ≡ Some v → (b ≡ true) × (x ≡ v)
if_some true x v h = (refl, cc h)
if_some false x v h = absurd (cc h)

if_none : (b : Bool) (x : ℕ) → (if b then Some x else None) ≡ None → b ≡ false
if_none true x h = absurd (cc h)
if_none false x h = refl

-- the value of a decimal digit
pub decimal_digit_value : (byte value : ℕ) → digit_value Decimal byte ≡ Some value → byte - 48 ≡ value
decimal_digit_value byte value h = (if_some (is_decimal_digit byte) _ value h).1

-- a byte with a value is a digit, and one without is none
pub digit_is : (base : Base) (byte value : ℕ) → digit_value base byte ≡ Some value → is_digit base byte ≡ true
digit_is Decimal byte value h = (if_some (is_decimal_digit byte) _ value h).0
digit_is Hex byte value h = ap is_some h

pub no_digit_is : (base : Base) (byte : ℕ) → digit_value base byte ≡ None → is_digit base byte ≡ false
no_digit_is Decimal byte h = if_none (is_decimal_digit byte) _ h
no_digit_is Hex byte h = ap is_some h

-- the number of digits of a base with one more
pub one_more_digit : (base : Base) (digits : List ℕ) (i value : ℕ) → i < length digits → digit_value base (get_or digits i 0) ≡ Some value
    → value_in base (take (i + 1) digits) ≡ value_in base (take i digits) * radix base + value
one_more_digit Decimal digits i value h is =
    omega (arith, next_value with_decimal digits i h, decimal_digit_value (get_or digits i 0) value is)
one_more_digit Hex digits i value h is =
    let told = digit_told (get_or digits i 0) value is in
    omega (arith, next_value with_hex digits i h, ap (λ (b : ℕ). with_hex (value_in Hex (take i digits)) b) told.0, with_digit (value_in Hex (take i digits)) value told.1)

-- with one more digit it is the number of all at most
pub one_more_at_most : (base : Base) (digits : List ℕ) (i value : ℕ) → i < length digits → digit_value base (get_or digits i 0) ≡ Some value
    → value_in base (take i digits) * radix base + value ≤ value_in base digits
one_more_at_most Decimal digits i value h is =
    omega (arith, one_more_digit Decimal digits i value h is, first_at_most with_decimal (λ m d. omega arith) digits (i + 1))
one_more_at_most Hex digits i value h is =
    omega (arith, one_more_digit Hex digits i value h is, first_at_most with_hex (λ m d. omega arith) digits (i + 1))
