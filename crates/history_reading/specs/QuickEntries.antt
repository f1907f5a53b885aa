-- What holds of an entry that is read in one pass over the text.
use Rattle.std.specs.Prelude.{◌≡◌, ℕ, ◌≤◌, List, ◌∷◌, ◌++◌, Ok, length}
use Rattle.text_fields.specs.Commands.{IsRecordable, plain_command}
use Rattle.text_fields.specs.KeptLines.{IsUnended}
use Rattle.history_reading.specs.HistoryFiles.{entry_in}
use Rattle.text_words.specs.RecordedWords.{IsNarrow, IsSized, plain_entry}
use Rattle.text_words.specs.declared.recorded.RecordedEntry.{RecordedEntry}

-- the text's first line, of at most 16,384 bytes, is read as this entry, and `rest` is the text after the line's end.
-- The entry's command and reply are in their ranges
pub record IsQuickEntry (text : List ℕ) (entry : RecordedEntry) (rest : List ℕ) : Type 0 where
  pub line : List ℕ
  pub whole : text ≡ line ++ 10 ∷ rest
  pub unended : IsUnended line
  pub short : length line ≤ 16384
  pub read : entry_in line ≡ Ok (plain_entry entry)
  pub in_range : IsRecordable (plain_command entry.command)
  pub sized : IsSized (plain_command entry.command)
  pub narrow : IsNarrow entry.reply
