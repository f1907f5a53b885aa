-- The fields that are read in one pass over a text.
use Rattle.std.specs.Prelude.{ℕ, List, decimal}
use Rattle.model_jobs.specs.Texts.{hex_from}
use Rattle.text_fields.specs.declared.bases.Base.{Base}
use Rattle.text_fields.specs.declared.bases.Base.TheVariants.{Decimal, Hex}

-- the most digits that are read in one pass: any 19 decimal digits fit 64 bits, and an address of 48 bits has at most
-- 12 hexadecimal digits
abbrev pub most_digits : Base → ℕ
most_digits Decimal = 19
most_digits Hex = 12

-- the spelling of a number in the base. A hexadecimal spelling has at most 12 digits, so the number must be below 2^48
abbrev pub spelling : Base → ℕ → List ℕ
spelling Decimal = decimal
spelling Hex = hex_from 11
