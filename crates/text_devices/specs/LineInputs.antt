-- The lines that a device returns, one by one.
use Rattle.std.specs.Prelude.{◌≡◌, ℕ, ◌<◌, ◌≤◌, ◌^◌, true, List, [], ◌∷◌, ◌++◌, Option, Some, length}
use Rattle.std.specs.Io.KnownBytes.{Consumes, IsAtEnd}
use Rattle.model_words.specs.declared.faults.TextFault.{TextFault}
use Rattle.text_devices.specs.declared.faults.ReplayError.{ReplayError}
use Rattle.text_devices.specs.declared.faults.ReplayError.TheVariants.{Memory, Read, Text, Write}
use Rattle.text_fields.specs.Lines.{text_lines}
use Rattle.text_devices.specs.Ends.{end_fault, is_full, long_line, too_long}
use Rattle.text_devices.specs.declared.lines.LineInput.{LineInput}

-- how many lines were read
abbrev pub lines_of : LineInput → ℕ
lines_of input = input.lines

-- the line that was read last, or, during a read, the beginning of the next line
abbrev pub line_of : LineInput → List ℕ
line_of input = input.line.bytes.items

-- the bytes that the device returned after the lines that were read
abbrev pub unread_of : LineInput → List ℕ
unread_of input = input.pending

-- no line was read yet, and no bytes are unread
pub record IsFresh (input : LineInput) : Type 0 where
  pub lines : lines_of input ≡ 0
  pub unread : unread_of input ≡ []

-- these lines, fewer than 2^32, were read from the text that the device returned. The rest of this text is the unread
-- bytes
pub record HasCome (input : LineInput) (left left' : Option (List ℕ)) (lines : List (List ℕ)) : Type 0 where
  pub text : List ℕ
  pub taken : Consumes left left' text
  pub reads : (more : List ℕ) → text_lines (text ++ more) ≡ lines ++ text_lines (unread_of input ++ more)
  pub count : length lines ≡ lines_of input
  pub few : length lines < 2 ^ 32

-- the device returned a text of exactly these lines, at least one and each with its end, and the input is at its end
pub record HasEnded (left left' : Option (List ℕ)) (lines : List (List ℕ)) : Type 0 where
  pub text : List ℕ
  pub taken : Consumes left left' text
  pub at_end : IsAtEnd left'
  pub is : text_lines text ≡ lines ++ [] ∷ []
  pub some : 1 ≤ length lines

-- after these lines comes a line of more than 16384 bytes
pub record GoesOnLong (all lines : List (List ℕ)) : Type 0 where
  pub long : List ℕ
  pub rest : List (List ℕ)
  pub is : all ≡ lines ++ long ∷ rest
  pub over : 16384 < length long

-- the fault of a text after these lines
pub data IsLineFault (left' : Option (List ℕ)) (text : List ℕ) (lines : List (List ℕ)) (fault : TextFault) : Type 0 where
  -- whatever follows the text, its next line has more than 16384 bytes
  Long : ((more : List ℕ) → GoesOnLong (text_lines (text ++ more)) lines) → fault ≡ long_line (length lines)
      → IsLineFault left' text lines fault
  -- the text has all the lines that a text may have, and at least one byte after them
  OneTooMany : is_full (length lines) ≡ true → (first : ℕ) (rest : List ℕ)
      → ((more : List ℕ) → text_lines (text ++ more) ≡ lines ++ text_lines (first ∷ (rest ++ more))) → fault ≡ too_long
      → IsLineFault left' text lines fault
  -- the input is at its end, and a text may not end with these bytes after its last line end
  BadEnd : IsAtEnd left' → (rest : List ℕ) → text_lines text ≡ lines ++ rest ∷ [] → end_fault (length lines) rest ≡ Some fault
      → IsLineFault left' text lines fault

-- the device returned a text that has this fault after these lines
pub record HasFault (left left' : Option (List ℕ)) (lines : List (List ℕ)) (fault : TextFault) : Type 0 where
  pub text : List ℕ
  pub taken : Consumes left left' text
  pub is : IsLineFault left' text lines fault

-- why no line was read after these: the text has this fault, the input failed, or an allocation failed. The latter two
-- errors promise nothing
abbrev pub HasStopped : Option (List ℕ) → Option (List ℕ) → List (List ℕ) → ReplayError → Type 0
HasStopped left left' lines (Text fault) = HasFault left left' lines fault
HasStopped left left' lines Read = Unit {0}
HasStopped left left' lines Memory = Unit {0}
HasStopped left left' lines Write = ⊥
