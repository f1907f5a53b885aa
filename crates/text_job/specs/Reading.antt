-- What the reader does with a line, and what it reports for a line that it can't read.
use Rattle.std.specs.Prelude.{◌≡◌, ℕ, ◌+◌, List, ◌++◌, Result, Err}
use Rattle.model_jobs.specs.JobFiles.{Draft, fault_at, lines_in}
use Rattle.model_words.specs.declared.faults.FaultKind.{FaultKind}
use Rattle.text_fields.specs.Lines.{text_lines}
use Rattle.text_job.specs.declared.faults.LineError.{LineError}
use Rattle.text_job.specs.declared.faults.LineError.TheVariants.{Kind as LineKind, Memory as LineMemory}

-- a line with its end was taken from the text, and `rest` is left. Whatever follows the line, reading from the line
-- with the old draft gives the result that reading after the line gives with the new draft and the next line number
pub record IsReadOn (before : Draft) (text : List ℕ) (after : Draft) (rest : List ℕ) : Type 0 where
  pub taken : List ℕ
  pub whole : text ≡ taken ++ rest
  pub reads : (number : ℕ) (more : List ℕ) → lines_in number before (text_lines (taken ++ more)) ≡ lines_in (number + 1) after (text_lines more)

-- why a step of reading failed: the step's fault, or out of memory
abbrev pub IsFaultOfStep : {A : Type 0} → Result A FaultKind → LineError → Type 0
IsFaultOfStep read (LineKind kind) = read ≡ Err kind
IsFaultOfStep read LineMemory = Unit {0}

-- why the next line of the text wasn't taken into the draft: out of memory, or a fault of the line. Such a fault ends
-- the reading, whatever follows the text
abbrev pub IsFaultOfLine : Draft → List ℕ → LineError → Type 0
IsFaultOfLine draft text (LineKind kind) =
    (number : ℕ) (more : List ℕ) → lines_in number draft (text_lines (text ++ more)) ≡ Err (fault_at number kind)
IsFaultOfLine draft text LineMemory = Unit {0}
