-- The names of the kinds of text faults, which are this project's own.
use Rattle.std.specs.Prelude.{ℕ, List, codes}
use Rattle.model_words.specs.declared.faults.FaultKind.{FaultKind}
use Rattle.model_words.specs.declared.faults.FaultKind.TheVariants.{TooLong, Trailing, LongLine, Cut, Byte, Word, Number, Hex}

-- the name of a kind of fault, as a fault line prints the kind
abbrev pub kind_name_of : FaultKind → List ℕ
kind_name_of TooLong = codes "TOO_LONG"
kind_name_of Trailing = codes "TRAILING"
kind_name_of LongLine = codes "LONG_LINE"
kind_name_of Cut = codes "CUT"
kind_name_of Byte = codes "BYTE"
kind_name_of Word = codes "WORD"
kind_name_of Number = codes "NUMBER"
kind_name_of Hex = codes "HEX"
