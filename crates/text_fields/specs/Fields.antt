-- Fields of digits.
use Rattle.std.specs.Prelude.{◌≡◌, ℕ, ◌<◌, ◌≤◌, Bool, ◌&&◌, if◌then◌else◌, nat_le, List, Result, Ok, Err, is_some, length, slice_index}
use Rattle.model_jobs.specs.JobFiles.{are_same, hex_number, hex_value, is_between}
use Rattle.model_jobs.specs.Texts.{hex_from}
use Rattle.model_words.specs.declared.faults.FaultKind.{FaultKind}
use Rattle.model_words.specs.declared.faults.FaultKind.TheVariants.{Number}
use Rattle.text_fields.specs.declared.faults.LineFault.{LineFault}
use Rattle.text_fields.specs.declared.faults.LineFault.TheVariants.{Kind, Memory}

-- whether the byte is a hexadecimal digit in lower case
abbrev pub is_hex_digit : ℕ → Bool
is_hex_digit byte = is_some (hex_value byte)

-- whether the byte is a decimal digit
abbrev pub is_decimal_digit : ℕ → Bool
is_decimal_digit byte = is_between 48 57 byte

-- if there are two or more digits, the first isn't zero
abbrev pub LeadsNoZero : List ℕ → Type 0
LeadsNoZero digits = (2 ≤ length digits) × (slice_index digits 0 ≡ 48) → ⊥

-- the number in a hexadecimal field. The field must be the number's one spelling, with at most `more + 1` digits, and
-- the number must be at most `most`. With 7 and 268435455 the number is an address of a job
abbrev pub hex_in : ℕ → ℕ → List ℕ → Result ℕ FaultKind
hex_in more most field =
    if are_same (hex_from more (hex_number field)) field && nat_le (hex_number field) most then Ok (hex_number field) else Err Number

-- why nothing was read where the definition reads this: the definition's fault, or an allocation for more than 32 bytes
-- failed. The latter is possible only where more than 32 bytes are allowed
abbrev pub IsUnread : {A : Type 0} → ℕ → Result A FaultKind → LineFault → Type 0
IsUnread most read (Kind kind) = read ≡ Err kind
IsUnread most read Memory = 32 < most
