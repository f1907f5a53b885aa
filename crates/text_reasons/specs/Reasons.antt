-- The kind of fault that a reason is for.
use Rattle.std.specs.Prelude.{ℕ}
use Rattle.model_words.specs.declared.faults.FaultKind.{FaultKind}
use Rattle.model_words.specs.declared.faults.FaultKind.TheVariants.{TooLong, Trailing, LongLine, Cut as CutKind, Byte as ByteKind, Word as WordKind, Number as NumberKind, Hex as HexKind}
use Rattle.text_reasons.specs.declared.reason.ByteReason.{ByteReason}
use Rattle.text_reasons.specs.declared.reason.ByteReason.TheVariants.{CarriageReturn, Tab, Other}
use Rattle.text_reasons.specs.declared.reason.Reason.{Reason}
use Rattle.text_reasons.specs.declared.reason.Reason.TheVariants.{General, Cut, Byte, Word, Number, Hex}

-- the kind of fault that a reason is for
abbrev pub kind_of : Reason → FaultKind
kind_of (General wanted kind) = kind
kind_of (Cut reason) = CutKind
kind_of (Byte reason) = ByteKind
kind_of (Word reason) = WordKind
kind_of (Number spelt reason) = NumberKind
kind_of (Hex spelt reason) = HexKind

-- a fault of this kind has no other reason than what it is in general
abbrev pub IsPlain : FaultKind → Type 0
IsPlain TooLong = Unit {0}
IsPlain Trailing = Unit {0}
IsPlain LongLine = Unit {0}
IsPlain kind = ⊥

-- the byte that may not stand in a line
abbrev pub byte_of : ByteReason → ℕ
byte_of CarriageReturn = 13
byte_of Tab = 9
byte_of (Other byte) = byte
