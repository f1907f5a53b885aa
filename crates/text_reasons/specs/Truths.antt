-- What a reason for a fault NUMBER, HEX or BYTE says, and that it is so.
use Rattle.std.specs.Prelude.{◌≡◌, ℕ, ◌≤◌, ◌%◌, true, false, List, length, slice_index, is_err}
use Rattle.model_jobs.specs.JobFiles.{address_in, byte_in, bytes_in, is_printable, number_in}
use Rattle.text_fields.specs.Fields.{hex_in}
use Rattle.text_reasons.specs.Reasons.{byte_of}
use Rattle.text_reasons.specs.declared.reason.HexReason.{HexReason}
use Rattle.text_reasons.specs.declared.reason.HexReason.TheVariants.{NoDigit, UpperCase as UpperHex, Odd, Long, OneByte}
use Rattle.text_reasons.specs.declared.reason.NumberReason.{NumberReason}
use Rattle.text_reasons.specs.declared.reason.NumberReason.TheVariants.{LeadingZero, Numbers as NoNumber, Only, Class as NoClass, UpperCase, Address as NoAddress, WideAddress as NoWideAddress, Version}
use Rattle.text_reasons.specs.declared.reason.Reason.{Reason}
use Rattle.text_reasons.specs.declared.reason.Reason.TheVariants.{General, Cut, Byte as OfByte, Word as OfWord, Number, Hex}
use Rattle.text_reasons.specs.declared.spelling.Range.{Range}
use Rattle.text_reasons.specs.declared.spelling.Range.TheVariants.{Numbers, Class, Address, WideAddress, Bytes, Byte, Word}

-- the text isn't a number from `least` to `most`
abbrev pub IsNoNumber : ℕ → ℕ → List ℕ → Type 0
IsNoNumber least most text = is_err (number_in least most text) ≡ true

-- the range doesn't allow the text. Nothing is said of a class
abbrev pub IsRefused : Range → List ℕ → Type 0
IsRefused (Numbers least most) text = IsNoNumber least most text
IsRefused Class text = Unit {0}
IsRefused Address text = is_err (address_in text) ≡ true
IsRefused WideAddress text = is_err (hex_in 11 281474976710655 text) ≡ true
IsRefused (Bytes most) text = is_err (bytes_in most text) ≡ true
IsRefused Byte text = is_err (byte_in text) ≡ true
IsRefused Word text = ⊥

-- the reason is true of a text in place of a number, a class or an address
abbrev pub IsTrueOfNumber : NumberReason → List ℕ → Type 0
IsTrueOfNumber LeadingZero text = (2 ≤ length text) × (slice_index text 0 ≡ 48)
IsTrueOfNumber (NoNumber least most) text = IsNoNumber least most text
IsTrueOfNumber (Only value) text = IsNoNumber value value text
IsTrueOfNumber NoClass text = Unit {0}
IsTrueOfNumber UpperCase text = Unit {0}
IsTrueOfNumber NoAddress text = is_err (address_in text) ≡ true
IsTrueOfNumber NoWideAddress text = is_err (hex_in 11 281474976710655 text) ≡ true
IsTrueOfNumber Version text = Unit {0}

-- the reason is true of a text in place of bytes
abbrev pub IsTrueOfHex : HexReason → List ℕ → Type 0
IsTrueOfHex (NoDigit byte) text = Unit {0}
IsTrueOfHex UpperHex text = Unit {0}
IsTrueOfHex Odd text = length text % 2 ≡ 1
IsTrueOfHex (Long most) text = is_err (bytes_in most text) ≡ true
IsTrueOfHex OneByte text = is_err (byte_in text) ≡ true

-- the reason is true of the text that it is about
abbrev pub IsSo : Reason → Type 0
IsSo (General wanted kind) = Unit {0}
IsSo (Cut reason) = Unit {0}
IsSo (OfByte reason) = is_printable (byte_of reason) ≡ false
IsSo (OfWord reason) = Unit {0}
IsSo (Number spelt reason) = IsTrueOfNumber reason spelt.1.now
IsSo (Hex spelt reason) = IsTrueOfHex reason spelt.1.now
