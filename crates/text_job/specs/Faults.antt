-- Why a file can't be read.
use Rattle.std.specs.Prelude.{◌≡◌, ℕ, List, Err}
use Rattle.model_jobs.specs.JobFiles.{read_text}
use Rattle.text_fields.specs.declared.faults.ReadFault.{ReadFault}
use Rattle.text_fields.specs.declared.faults.ReadFault.TheVariants.{Text as ReadText, Memory as ReadMemory}

-- why a text gave no job: the text's first fault, or out of memory
abbrev pub IsReadFault : List ℕ → ReadFault → Type 0
IsReadFault text (ReadText fault) = read_text text ≡ Err fault
IsReadFault text ReadMemory = Unit {0}
