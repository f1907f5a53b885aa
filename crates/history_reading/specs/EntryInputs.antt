-- The entries of the history that a device gives.
use Rattle.std.specs.Prelude.{◌≡◌, ◌⊎◌, ℕ, ◌+◌, ◌<◌, ◌≤◌, List, [], ◌++◌, Option, Some, None, length}
use Rattle.std.specs.Io.KnownBytes.{Consumes, IsAtEnd}
use Rattle.model_memory.specs.Plain.{Entry}
use Rattle.text_fields.specs.Commands.{IsRecordable, plain_command}
use Rattle.text_fields.specs.declared.faults.ReadFault.{ReadFault}
use Rattle.text_fields.specs.declared.faults.ReadFault.TheVariants.{Text as FaultyText, Memory as OfMemory}
use Rattle.text_devices.specs.declared.faults.ReplayError.{ReplayError}
use Rattle.text_devices.specs.declared.faults.ReplayError.TheVariants.{Memory, Read, Text, Write}
use Rattle.history_reading.specs.Readers.{bytes_left, lines_of, next_line, reading_behind}
use Rattle.history_reading.specs.Readings.{Reading, ends_with, reading_of, with_entries, with_entry}
use Rattle.text_words.specs.RecordedWords.{IsNarrow, IsSized, plain_entry}
use Rattle.history_reading.specs.declared.entry_inputs.HistoryInput.{HistoryInput}
use Rattle.text_words.specs.declared.recorded.RecordedEntry.{RecordedEntry}

-- the number of lines of a history that were read
abbrev pub lines_before : HistoryInput → ℕ
lines_before history = lines_of history.reader

-- the reading of the rest of a history, if its device gives these bytes from now on
abbrev pub reading_left : HistoryInput → List ℕ → Reading
reading_left history more = reading_behind history.reader (history.pending ++ more)

-- nothing was read yet
pub record IsFresh (history : HistoryInput) : Type 0 where
  pub lines : lines_before history ≡ 0
  pub reads : (text : List ℕ) → reading_left history text ≡ reading_of text

-- this entry is the next one: whatever follows, the old rest of the history reads as this entry and then the new rest.
-- Its command and its reply are in their ranges
pub record IsNext (old new : HistoryInput) (entry : RecordedEntry) : Type 0 where
  pub reads : (more : List ℕ) → reading_left old more ≡ with_entry (plain_entry entry) (reading_left new more)
  pub line : lines_before new ≡ next_line old.reader
  pub in_range : IsRecordable (plain_command entry.command)
  pub sized : IsSized (plain_command entry.command)
  pub narrow : IsNarrow entry.reply

-- no entry ends in the pending bytes, which are used up now
pub record IsUsedUp (old new : HistoryInput) : Type 0 where
  pub reads : (more : List ℕ) → reading_left old more ≡ reading_left new more
  pub line : next_line new.reader ≡ next_line old.reader
  pub used_up : new.pending ≡ []
  pub no_more : bytes_left new.reader ≤ bytes_left old.reader
  pub fewer : 1 ≤ length old.pending → bytes_left new.reader < bytes_left old.reader

-- whatever follows, the rest of the history has no entry, only this fault. If an allocation failed, nothing is claimed
abbrev pub IsFault : HistoryInput → ReadFault → Type 0
IsFault old (FaultyText fault) = (more : List ℕ) → reading_left old more ≡ ends_with (Some fault)
IsFault old OfMemory = Unit {0}

-- if the text ends here, it has no fault, and at least one line was read
pub record MayEnd (history : HistoryInput) : Type 0 where
  pub reads : reading_left history [] ≡ ends_with None
  pub some : 1 ≤ lines_before history

-- if the text ends here, it has this fault; there is no other error
abbrev pub EndsWithFault : HistoryInput → ReplayError → Type 0
EndsWithFault history (Text fault) = reading_left history [] ≡ ends_with (Some fault)
EndsWithFault history _ = ⊥

-- these entries were read of what the device gave
pub record HasCome (history : HistoryInput) (left left' : Option (List ℕ)) (entries : List Entry) : Type 0 where
  pub text : List ℕ
  pub taken : Consumes left left' text
  pub reads : (more : List ℕ) → reading_of (text ++ more) ≡ with_entries entries (reading_left history more)
  pub line : next_line history.reader ≡ length entries + 2

-- the device gave a text with this reading: either whatever follows, or because the input ended there
pub record HasRead (left left' : Option (List ℕ)) (reading : Reading) : Type 0 where
  pub text : List ℕ
  pub taken : Consumes left left' text
  pub is_read : ((more : List ℕ) → reading_of (text ++ more) ≡ reading) ⊎ ((reading_of text ≡ reading) × IsAtEnd left')

-- the input ended after these entries, and its text has no fault
pub record HasEnded (history : HistoryInput) (left left' : Option (List ℕ)) (entries : List Entry) : Type 0 where
  pub read : HasRead left left' (record { entries = entries; fault = None })
  pub lines : lines_before history ≡ length entries + 1

-- why no entry follows these: the text has this fault. If the input or an allocation failed, nothing is claimed
abbrev pub HasStopped : Option (List ℕ) → Option (List ℕ) → List Entry → ReplayError → Type 0
HasStopped left left' entries (Text fault) = HasRead left left' (record { entries = entries; fault = Some fault })
HasStopped left left' entries Read = Unit {0}
HasStopped left left' entries Memory = Unit {0}
HasStopped left left' entries Write = ⊥
