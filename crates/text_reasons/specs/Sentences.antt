-- The sentences of reasons.
use Rattle.std.specs.Prelude.{ℕ, ◌+◌, if◌then◌else◌, nat_eq, List, [], ◌∷◌, ◌++◌, codes, decimal, length}
use Rattle.std.specs.List.{flat_map}
use Rattle.model_words.specs.declared.faults.FaultKind.{FaultKind}
use Rattle.model_words.specs.declared.faults.FaultKind.TheVariants.{TooLong, Trailing, LongLine, Cut as CutKind, Byte as ByteKind, Word as WordKind, Number as NumberKind, Hex as HexKind}
use Rattle.text_reasons.specs.Quotes.{escaped_text, quoted_text}
use Rattle.text_reasons.specs.declared.grammar.Field.{Field}
use Rattle.text_reasons.specs.declared.grammar.Form.{Form}
use Rattle.text_reasons.specs.declared.kinds.EntryKind.{EntryKind}
use Rattle.text_reasons.specs.declared.kinds.EntryKind.TheVariants.{InOrder, Overlapping}
use Rattle.text_reasons.specs.declared.kinds.TextKind.{TextKind}
use Rattle.text_reasons.specs.declared.kinds.TextKind.TheVariants.{Job, History}
use Rattle.text_reasons.specs.declared.reason.ByteReason.{ByteReason}
use Rattle.text_reasons.specs.declared.reason.ByteReason.TheVariants.{CarriageReturn, Tab, Other}
use Rattle.text_reasons.specs.declared.reason.CutReason.{CutReason}
use Rattle.text_reasons.specs.declared.reason.CutReason.TheVariants.{Empty, Line, End}
use Rattle.text_reasons.specs.declared.reason.HexReason.{HexReason}
use Rattle.text_reasons.specs.declared.reason.HexReason.TheVariants.{NoDigit, UpperCase, Odd, Long, OneByte}
use Rattle.text_reasons.specs.declared.reason.NumberReason.{NumberReason}
use Rattle.text_reasons.specs.declared.reason.NumberReason.TheVariants.{LeadingZero, Numbers, Only, Class, UpperCase as UpperAddress, Address, WideAddress, Version}
use Rattle.text_reasons.specs.declared.reason.Reason.{Reason}
use Rattle.text_reasons.specs.declared.reason.Reason.TheVariants.{General, Cut, Byte, Word, Number, Hex}
use Rattle.text_reasons.specs.declared.reason.Spelt.{Spelt}
use Rattle.text_reasons.specs.declared.reason.WordReason.{WordReason}
use Rattle.text_reasons.specs.declared.reason.WordReason.TheVariants.{Comment, EmptyLine, LeadingBlank, TrailingBlank, TwoBlanks, OtherText, Expected, Unknown, Count, PairCount, OnlyInVersionTwo, NoMoreWorkers, NoScript, ManyFields, NoArrow, NoCommand, NoAnswer, OtherAnswer, Literal, Name}

-- what a fault of a kind is in general
abbrev pub general_text : TextKind → FaultKind → List ℕ
general_text Job TooLong = codes "more than 1,048,576 bytes"
general_text History TooLong = codes "more than 4,294,967,295 lines"
general_text wanted Trailing = codes "a byte after 'end', the last line of a job"
general_text Job LongLine = codes "more than 1,024 bytes in a line"
general_text History LongLine = codes "more than 16,384 bytes in a line"
general_text wanted CutKind = codes "the text ends too early"
general_text wanted ByteKind = codes "a byte outside 20 to 7e"
general_text wanted WordKind = codes "an empty field, a wrong number of fields, or a word that isn't allowed here"
general_text wanted NumberKind = codes "a number that is spelt wrongly or out of range"
general_text wanted HexKind = codes "bytes that are spelt wrongly or of a wrong length"

-- why a text ends too early
abbrev pub cut_text : CutReason → List ℕ
cut_text Empty = codes "the text is empty"
cut_text Line = codes "the text ends within this line: the line end is missing"
cut_text End = codes "the text ends before the line 'end'"

-- the byte that may not stand in a line
abbrev pub byte_text : ByteReason → List ℕ
byte_text CarriageReturn = codes "a carriage return"
byte_text Tab = codes "a tab"
byte_text (Other byte) = codes "the byte " ++ escaped_text byte

-- a field's name behind a space
abbrev pub field_text : Field → List ℕ
field_text f = codes " " ++ f.0.now

-- a form: its word and the names of its fields
unfoldable pub form_text : Form → List ℕ
form_text form = form.0.now ++ flat_map field_text form.1.now

-- how many fields a form has, with its word
unfoldable pub count_text : Form → List ℕ
count_text form = if nat_eq (length form.1.now) 0 then codes "1 field" else decimal (length form.1.now + 1) ++ codes " fields"

-- a form's word, and how many fields it has
unfoldable pub has_text : Form → List ℕ
has_text form = form.0.now ++ codes " has " ++ count_text form

-- a form's word behind a comma
abbrev pub further_text : Form → List ℕ
further_text form = codes ", " ++ form.0.now

-- the words of forms, with commas between them
unfoldable pub words_text : List Form → List ℕ
words_text [] = []
words_text (form ∷ forms) = form.0.now ++ flat_map further_text forms

-- the form of an entry
abbrev pub entry_text : EntryKind → List ℕ
entry_text InOrder = codes "W COMMAND -> ANSWER"
entry_text Overlapping = codes "W BEGIN END COMMAND -> ANSWER"

-- the text is one of this kind, and another kind is read
abbrev pub other_text : TextKind → List ℕ
other_text Job = codes "this is a job; did you mean meshrun replay?"
other_text History = codes "this is a history; did you mean meshrun check?"

-- why the words of a line are faulty
abbrev pub word_text : WordReason → List ℕ
word_text Comment = codes "there are no comments: a field begins with '#'"
word_text EmptyLine = codes "an empty line"
word_text LeadingBlank = codes "a leading blank"
word_text TrailingBlank = codes "a trailing blank"
word_text TwoBlanks = codes "two blanks in a row"
word_text (OtherText kind) = other_text kind
word_text (Expected word form) = quoted_text word.now ++ (codes " where '" ++ form_text form ++ codes "' is wanted")
word_text (Unknown word known) =
    quoted_text word.now ++ (codes " is no " ++ known.0.now ++ codes "; ") ++ (words_text known.1.now ++ codes " are")
word_text (Count form count) =
    has_text form ++ (codes ": " ++ form_text form ++ codes "; here it has ") ++ decimal count
word_text (PairCount count) = codes "pair has 3 to 35 fields: pair CLASS T WORD ..; here it has " ++ decimal count
word_text OnlyInVersionTwo = codes "'copy' is a command of version 2 alone, whose first line is 'mesh 2'"
word_text (NoMoreWorkers workers) = codes "the job has no worker " ++ decimal workers ++ codes ": its workers are counted from 0, and 'plan' is next"
word_text (NoScript worker) = codes "the script of worker " ++ decimal worker ++ codes " is missing before 'plan'"
word_text (ManyFields most) = codes "more than " ++ decimal most ++ codes " fields"
word_text (NoArrow kind) = codes "no field '->': " ++ entry_text kind
word_text (NoCommand kind) = codes "too few fields before '->': " ++ entry_text kind
word_text (NoAnswer kind) = codes "no answer behind '->': " ++ entry_text kind
word_text (OtherAnswer answer command) = quoted_text answer.now ++ (codes " is no answer to " ++ quoted_text command.now ++ codes " in version 2")
word_text (Literal word form) = quoted_text word.now ++ codes " where another word is wanted: " ++ form_text form
word_text (Name name number) = quoted_text name.now ++ codes " isn't the NAME of refusal " ++ quoted_text number.now

-- what is no spelling of a field
abbrev pub spelt_text : Spelt → List ℕ
spelt_text spelt = quoted_text spelt.1.now ++ codes " is no " ++ spelt.0.0.now

-- why a number, a class or an address is faulty
abbrev pub number_text : NumberReason → List ℕ
number_text LeadingZero = codes ": a number has no leading zero"
number_text (Numbers least most) = codes ", a number from " ++ decimal least ++ codes " to " ++ decimal most
number_text (Only value) = codes ": only " ++ decimal value ++ codes " is allowed here"
number_text Class = codes ": 16, 32, 64, 128, 256, 384, 512, 1024, 1536, 2048 are"
number_text UpperAddress = codes ": hexadecimal digits are in lower case"
number_text Address = codes ", a hexadecimal number from 0 to fffffff"
number_text WideAddress = codes ", a hexadecimal number from 0 to ffffffffffff"
number_text Version = codes " that is read here: 1 is"

-- why bytes are faulty
abbrev pub hex_text : HexReason → List ℕ
hex_text (NoDigit byte) = codes ": '" ++ escaped_text byte ++ codes "' is no hexadecimal digit"
hex_text UpperCase = codes ": hexadecimal digits are in lower case"
hex_text Odd = codes ": an odd number of digits"
hex_text (Long most) = codes ": more than " ++ decimal most ++ codes " bytes"
hex_text OneByte = codes ": a byte has two digits"

-- the text of a reason, without a line end
abbrev pub reason_text : Reason → List ℕ
reason_text (General wanted kind) = general_text wanted kind
reason_text (Cut reason) = cut_text reason
reason_text (Byte reason) = byte_text reason
reason_text (Word reason) = word_text reason
reason_text (Number spelt reason) = spelt_text spelt ++ number_text reason
reason_text (Hex spelt reason) = spelt_text spelt ++ hex_text reason
