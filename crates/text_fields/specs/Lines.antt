-- The lines of a text, and the fields of a line.
use Rattle.std.specs.Prelude.{◌≡◌, ℕ, ◌≤◌, Bool, true, false, not, nat_eq, nat_lt, List, [], ◌∷◌, ◌++◌, Result, Err, length, map}
use Rattle.std.specs.List.{list_all, slice_split}
use Rattle.model_jobs.specs.JobFiles.{Draft, fault_at, has_ended, is_between, is_printable, lines_in}
use Rattle.model_words.specs.Words.{◌>>=◌, refuse_if}
use Rattle.model_words.specs.declared.faults.FaultKind.{FaultKind}
use Rattle.model_words.specs.declared.faults.FaultKind.TheVariants.{LongLine, Byte}
use denote.Ref.{Bor}

-- the bytes of each field
abbrev pub texts : List (Bor (List ℕ)) → List (List ℕ)
texts fields = map (λ field. field.now) fields

-- the lines of a text. The last line is the bytes after the last line end
abbrev pub text_lines : List ℕ → List (List ℕ)
text_lines text = slice_split (λ b. nat_eq b 10) text

-- the fields of a line. The first field is the line's word
abbrev pub line_fields : List ℕ → List (List ℕ)
line_fields line = slice_split (λ b. nat_eq b 32) line

-- whether the byte is allowed in a field
abbrev pub is_field_byte : ℕ → Bool
is_field_byte byte = is_between 33 126 byte

-- the line, without its end, has at most `most` bytes, and each byte is allowed in a line. Otherwise the fault is
-- `LongLine` or `Byte`, in this order
abbrev pub bytes_fit : ℕ → List ℕ → Result (Unit {0}) FaultKind
bytes_fit most line = refuse_if LongLine (nat_lt most (length line)) >>= λ _. refuse_if Byte (not (list_all is_printable line))

-- the next line of the text has at most 1024 bytes, all printable, and these fields. `rest` is the text after the line
pub record IsSplit (text : List ℕ) (fields : List (List ℕ)) (rest : List ℕ) : Type 0 where
  pub line : List ℕ
  pub lines : text_lines text ≡ line ∷ text_lines rest
  pub short : length line ≤ 1024
  pub printable : list_all is_printable line ≡ true
  pub has_fields : fields ≡ line_fields line

-- the text has no line end, and at most the 1024 bytes of a line
pub record IsPartOfLine (text : List ℕ) : Type 0 where
  pub unended : text_lines text ≡ text ∷ []
  pub short : length text ≤ 1024

-- in a job file that hasn't ended, the next line of this text has this fault, whatever was read before and whatever
-- follows the text
abbrev pub IsFaultyLine : List ℕ → FaultKind → Type 0
IsFaultyLine text kind =
    (number : ℕ) (draft : Draft) (more : List ℕ) → has_ended draft.section ≡ false
    → lines_in number draft (text_lines (text ++ more)) ≡ Err (fault_at number kind)
