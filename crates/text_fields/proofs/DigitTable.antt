-- A table of the values that bytes have as hexadecimal digits.
use Rattle.std.proofs.Common.{◌≡◌, ℕ, ◌<◌, ◌≤◌, List, Option, Some, None, get_or, map, ap, refl, ◌∙◌, arith}
use Rattle.std.specs.List.{range_with_len}
use Rattle.std.proofs.lemmas.List.FromFn.{get_or-map-range_with_len}
use Rattle.model_jobs.specs.JobFiles.{hex_value}
use Rattle.model_jobs.proofs.FieldReadings.{digit_told}

-- a digit's value, 16 where there is none
abbrev pub or_16 : Option ℕ → ℕ
or_16 (Some value) = value
or_16 None = 16

-- the table of all bytes
abbrev pub digit_values : List ℕ
digit_values = map (λ byte. or_16 (hex_value byte)) (range_with_len 0 256)

entry : (table : List ℕ) (byte : ℕ) → table ≡ digit_values → byte < 256 → get_or table byte 0 ≡ or_16 (hex_value byte)
entry table byte is below = ap (λ (l : List ℕ). get_or l byte 0) is ∙ get_or-map-range_with_len (λ b. or_16 (hex_value b)) 0 256 byte byte 0 below (omega arith)

some_of : (digit : Option ℕ) (value : ℕ) → value ≡ or_16 digit → value < 16 → Some value ≡ digit
some_of (Some one) value is below = ap Some is
some_of None value is below = absurd (omega (arith, is, below))

none_of : (digit : Option ℕ) → ((value : ℕ) → digit ≡ Some value → value < 16) → 16 ≤ or_16 digit → None ≡ digit
none_of (Some one) few large = absurd (omega (arith, few one refl, large))
none_of None few large = refl

-- an entry below 16 is the value of a digit
pub digit_entry : (table : List ℕ) (byte : ℕ) → table ≡ digit_values → byte < 256 → get_or table byte 0 < 16 → Some (get_or table byte 0) ≡ hex_value byte
digit_entry table byte is below small = some_of (hex_value byte) _ (entry table byte is below) small

-- and any other one says that its byte is no digit
pub no_digit_entry : (table : List ℕ) (byte : ℕ) → table ≡ digit_values → byte < 256 → 16 ≤ get_or table byte 0 → None ≡ hex_value byte
no_digit_entry table byte is below large = none_of _ (λ value told. (digit_told byte _ told).1) (omega (arith, entry _ _ is below, large))
