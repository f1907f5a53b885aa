-- The steps of a read: the beginning of a line that was read, and what the unread bytes add to it.
use Rattle.std.specs.Prelude.{◌≡◌, ℕ, ◌+◌, ◌<◌, ◌≤◌, ◌^◌, true, List, [], ◌∷◌, ◌++◌, Option, Some, length}
use Rattle.std.specs.Io.KnownBytes.{Consumes}
use Rattle.text_devices.specs.declared.faults.ReplayError.{ReplayError}
use Rattle.text_devices.specs.declared.faults.ReplayError.TheVariants.{Memory, Text}
use Rattle.text_fields.specs.Lines.{text_lines}
use Rattle.model_words.specs.declared.faults.TextFault.{TextFault}
use Rattle.text_devices.specs.Ends.{end_fault, is_full, long_line, too_long}
use Rattle.text_devices.specs.LineInputs.{GoesOnLong, line_of, lines_of, unread_of}
use Rattle.text_devices.specs.declared.lines.LineInput.{LineInput}

-- these lines and the beginning of the next line were read from the text that the device returned
pub record HasBegun (input : LineInput) (left left' : Option (List ℕ)) (lines : List (List ℕ)) : Type 0 where
  pub text : List ℕ
  pub taken : Consumes left left' text
  pub reads : (more : List ℕ) → text_lines (text ++ more) ≡ lines ++ text_lines (line_of input ++ (unread_of input ++ more))
  pub count : length lines ≡ lines_of input

-- the next line was read to its end, and there are still fewer than 2^32 lines
pub record IsNext (old new : LineInput) : Type 0 where
  pub reads : (more : List ℕ) → text_lines (line_of old ++ (unread_of old ++ more)) ≡ line_of new ∷ text_lines (unread_of new ++ more)
  pub count : lines_of new ≡ lines_of old + 1
  pub few : lines_of new < 2 ^ 32

-- all unread bytes were added to the line, which hasn't ended
pub record IsUsedUp (old new : LineInput) : Type 0 where
  pub line : line_of new ≡ line_of old ++ unread_of old
  pub used_up : unread_of new ≡ []
  pub count : lines_of new ≡ lines_of old

-- the fault of the next line, whatever follows the unread bytes: the line is too long, or no further line is allowed
pub data IsFaultAhead (old : LineInput) (fault : TextFault) : Type 0 where
  LongAhead : ((more : List ℕ) → GoesOnLong (text_lines (line_of old ++ (unread_of old ++ more))) []) → fault ≡ long_line (lines_of old)
      → IsFaultAhead old fault
  OneMore : is_full (lines_of old) ≡ true → 1 ≤ length (unread_of old) → fault ≡ too_long → IsFaultAhead old fault

-- why the next line isn't read: its fault, or an allocation failure
abbrev pub IsFaulty : LineInput → ReplayError → Type 0
IsFaulty old (Text fault) = IsFaultAhead old fault
IsFaulty old Memory = Unit {0}
IsFaulty old _ = ⊥

-- if the text ends here, it has this fault. No other error is possible
abbrev pub EndsWithFault : LineInput → ReplayError → Type 0
EndsWithFault input (Text fault) = end_fault (lines_of input) (line_of input) ≡ Some fault
EndsWithFault input _ = ⊥

-- why bytes of the line after this number of lines aren't kept: they are more than 16384, or an allocation failed
abbrev pub IsNotKept : ℕ → List ℕ → ReplayError → Type 0
IsNotKept lines bytes (Text fault) = (fault ≡ long_line lines) × (16384 < length bytes)
IsNotKept lines bytes Memory = Unit {0}
IsNotKept lines bytes _ = ⊥
