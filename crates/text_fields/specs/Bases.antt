-- The digits of a base, and the number that they spell.
use Rattle.std.specs.Prelude.{ℕ, ◌-◌, Bool, if◌then◌else◌, List, Option, Some, None}
use Rattle.model_jobs.specs.JobFiles.{decimal_value, hex_number, hex_value}
use Rattle.text_fields.specs.Fields.{is_decimal_digit, is_hex_digit}
use Rattle.text_fields.specs.declared.bases.Base.{Base}
use Rattle.text_fields.specs.declared.bases.Base.TheVariants.{Decimal, Hex}

-- how many digits the base has
abbrev pub radix : Base → ℕ
radix Decimal = 10
radix Hex = 16

-- whether the byte is a digit of the base
abbrev pub is_digit : Base → ℕ → Bool
is_digit Decimal = is_decimal_digit
is_digit Hex = is_hex_digit

-- the value of a digit of the base, or none for another byte
abbrev pub digit_value : Base → ℕ → Option ℕ
digit_value Decimal byte = if is_decimal_digit byte then Some (byte - 48) else None
digit_value Hex byte = hex_value byte

-- the number that digits of the base spell
abbrev pub value_in : Base → List ℕ → ℕ
value_in Decimal = decimal_value
value_in Hex = hex_number
