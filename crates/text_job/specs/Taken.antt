-- The part of a file that a reading has taken.
use Rattle.std.specs.Prelude.{◌≡◌, ℕ, ◌+◌, ◌≤◌, Bool, false, ◌||◌, List, ◌++◌, Option, Some, None, Result, Err, IfSome, is_some, length}
use Rattle.model_jobs.specs.JobFiles.{Draft as PlainDraft, blank_draft, has_ended, lines_in}
use Rattle.model_jobs.specs.Jobs.{Job}
use Rattle.model_words.specs.declared.faults.TextFault.{TextFault}
use Rattle.text_fields.specs.Lines.{IsPartOfLine, text_lines}
use Rattle.text_job.specs.Draft.{IsDraft, draft_of}
use Rattle.text_job.specs.declared.reader.Reading.{Reading}

-- the result of reading a file that ends in `more`: the fault, if one was found before `more`. Otherwise the result of
-- reading `more` with the draft, from line `number` on
abbrev pub reads_on : Option TextFault → ℕ → PlainDraft → List ℕ → Result Job TextFault
reads_on (Some fault) number draft more = Err fault
reads_on None number draft more = lines_in number draft (text_lines more)

-- the result of reading the file of a reading, if these bytes follow the taken ones
abbrev pub read_behind : Reading → List ℕ → Result Job TextFault
read_behind r more = reads_on r.fault r.number (draft_of r.draft) more

-- how many bytes a reading has taken
abbrev pub bytes_taken : Reading → ℕ
bytes_taken r = r.taken

-- whether a reading is over: it has found a fault, or the file's last line
abbrev pub is_over : Reading → Bool
is_over r = is_some r.fault || has_ended (draft_of r.draft).section

-- a reading is sound: without a fault its draft is sound. Lines are numbered from 1, and each line before the next one
-- has at least one byte
pub record IsReading (r : Reading) : Type 0 where
  pub draft : r.fault ≡ None → IsDraft r.draft
  pub fault : IfSome r.fault (λ fault. 1 ≤ fault.line)
  pub numbered : 1 ≤ r.number
  pub counted : r.number ≤ r.taken + 1

-- the reading has taken exactly this text of its file: whatever follows the text, the result of reading the file is the
-- result of reading on from here
pub record HasTaken (r : Reading) (text : List ℕ) : Type 0 where
  pub sound : IsReading r
  pub count : bytes_taken r ≡ length text
  pub reads : (more : List ℕ) → lines_in 1 blank_draft (text_lines (text ++ more)) ≡ read_behind r more

-- the reading went on over these bytes and took all of them but `left`: whatever follows the taken bytes, the result of
-- reading is unchanged
pub record IsReadTo (old : Reading) (bytes : List ℕ) (new : Reading) (left : List ℕ) : Type 0 where
  pub taken : List ℕ
  pub whole : bytes ≡ taken ++ left
  pub reads : (more : List ℕ) → read_behind old (taken ++ more) ≡ read_behind new more

-- a reading may leave these bytes: they are the beginning of a line, and if the file's last line was read, they are
-- empty
pub record IsLeft (r : Reading) (left : List ℕ) : Type 0 where
  pub part : IsPartOfLine left
  pub going : 1 ≤ length left → has_ended (draft_of r.draft).section ≡ false
