-- The entries of a text that comes in pieces: whatever follows, the rest of the text reads the same before and after a
-- piece was taken, but for the entry that was read.
use Rattle.std.specs.Prelude.{◌≡◌, ℕ, ◌+◌, ◌-◌, ◌<◌, ◌≤◌, if◌then◌else◌, nat_eq, List, [], ◌++◌, Option, Some, Result, Err, IfOk, IfSome, length}
use Rattle.model_words.specs.declared.faults.TextFault.{TextFault}
use Rattle.text_fields.specs.Commands.{IsRecordable, plain_command}
use Rattle.text_fields.specs.Lines.{text_lines}
use Rattle.text_fields.specs.declared.faults.ReadFault.{ReadFault}
use Rattle.text_fields.specs.declared.faults.ReadFault.TheVariants.{Text, Memory as OfMemory}
use Rattle.history_reading.specs.Readings.{LineRead, Reading, ends_with, reading_from, with_entry}
use Rattle.text_words.specs.RecordedWords.{IsNarrow, IsSized, plain_entry}
use Rattle.history_reading.specs.declared.reading.EntryReader.{EntryReader}
use Rattle.text_words.specs.declared.recorded.RecordedEntry.{RecordedEntry}
use denote.Ref.{Bor}

-- the number of lines that a reader has read
abbrev pub lines_of : EntryReader → ℕ
lines_of reader = reader.lines

-- the bytes that the reader has of a line that isn't complete
abbrev pub begun_of : EntryReader → List ℕ
begun_of reader = reader.begun.bytes.items

-- the number of the next entry's line: line 1 is the head
abbrev pub next_line : EntryReader → ℕ
next_line reader = if nat_eq (lines_of reader) 0 then 2 else lines_of reader + 1

-- the reading of the rest of the text, if these bytes follow
abbrev pub reading_behind : EntryReader → List ℕ → Reading
reading_behind reader more = reading_from (lines_of reader) (text_lines (begun_of reader ++ more))

-- an upper bound of the bytes that a reader still reads before an entry ends or a fault is found
abbrev pub bytes_left : EntryReader → ℕ
bytes_left reader = (if nat_eq (lines_of reader) 0 then 16385 else 0) + (16384 - length (begun_of reader))

-- the text's next entry was read of the front of the piece, and `rest` is the rest of the piece. The entry's command
-- and reply are in their ranges
pub record HasRead (old new : EntryReader) (piece : List ℕ) (entry : RecordedEntry) (rest : List ℕ) : Type 0 where
  pub reads : (more : List ℕ) → reading_behind old (piece ++ more) ≡ with_entry (plain_entry entry) (reading_behind new (rest ++ more))
  pub line : lines_of new ≡ next_line old
  pub begun : begun_of new ≡ []
  pub front : List ℕ
  pub whole : piece ≡ front ++ rest
  pub shorter : length rest < length piece
  pub in_range : IsRecordable (plain_command entry.command)
  pub sized : IsSized (plain_command entry.command)
  pub narrow : IsNarrow entry.reply

-- the reader took the whole piece, and no entry ends in it
pub record HasTaken (old new : EntryReader) (piece : List ℕ) : Type 0 where
  pub reads : (more : List ℕ) → reading_behind old (piece ++ more) ≡ reading_behind new more
  pub line : next_line new ≡ next_line old
  pub no_more : bytes_left new ≤ bytes_left old
  pub fewer : 1 ≤ length piece → bytes_left new < bytes_left old

-- if the piece follows, no entry is read, only this fault. If an allocation failed, nothing is claimed
abbrev pub HasFault : EntryReader → List ℕ → ReadFault → Type 0
HasFault old piece (Text fault) = (more : List ℕ) → reading_behind old (piece ++ more) ≡ ends_with (Some fault)
HasFault old piece OfMemory = Unit {0}

-- the fault is the one that the reading of a line returned. If an allocation failed, nothing is claimed
abbrev pub IsFaultOf : Result LineRead TextFault → ReadFault → Type 0
IsFaultOf read (Text fault) = read ≡ Err fault
IsFaultOf read OfMemory = Unit {0}

-- if an entry was read, the property holds of the entry and of the rest of the piece
abbrev pub IfRead : Result (Option (RecordedEntry × Bor (List ℕ))) ReadFault → (RecordedEntry → List ℕ → Type 0) → Type 0
IfRead result holds = IfOk result (λ next. IfSome next (λ read. holds read.0 read.1.now))
