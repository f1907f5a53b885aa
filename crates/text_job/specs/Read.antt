-- What was read from a device if its text is a job, and if it is none.
use Rattle.std.specs.Prelude.{◌≡◌, ◌⊎◌, ℕ, List, ◌++◌, Option, Ok, Err, length}
use Rattle.std.specs.Io.KnownBytes.{Consumes, IsAtEnd}
use Rattle.model_jobs.specs.JobFiles.{read_text}
use Rattle.model_jobs.specs.Jobs.{Job}
use Rattle.model_words.specs.declared.faults.TextFault.{TextFault}
use Rattle.text_job.specs.Taken.{HasTaken}
use Rattle.text_job.specs.declared.reader.Reading.{Reading}
use Rattle.text_devices.specs.declared.faults.ReplayError.{ReplayError}
use Rattle.text_devices.specs.declared.faults.ReplayError.TheVariants.{Read, Write, Text, Memory}

-- this text was read from the input: all of it up to the end of the input, or 1048577 bytes, which is one byte more
-- than a job file may have
pub record HasRead (left left' : Option (List ℕ)) (text : List ℕ) : Type 0 where
  pub taken : Consumes left left' text
  pub whole : IsAtEnd left' ⊎ (length text ≡ 1048577)

-- the reading has taken all of the text but these last bytes
pub record IsHeld (reading : Reading) (held text : List ℕ) : Type 0 where
  pub taken : List ℕ
  pub all : text ≡ taken ++ held
  pub has_taken : HasTaken reading taken

-- a text was read from the input, and the reading has taken all of the text but these last bytes
pub record HasReadInto (left left' : Option (List ℕ)) (reading : Reading) (held : List ℕ) : Type 0 where
  pub text : List ℕ
  pub read : HasRead left left' text
  pub is_held : IsHeld reading held text

-- the input was read to its end, and its text is the text of this job
pub record HasReadJob (left left' : Option (List ℕ)) (job : Job) : Type 0 where
  pub text : List ℕ
  pub taken : Consumes left left' text
  pub whole : IsAtEnd left'
  pub is_job : read_text text ≡ Ok job

-- a text was read from the input, and reading it as a job gives this fault
pub record HasFound (left left' : Option (List ℕ)) (fault : TextFault) : Type 0 where
  pub text : List ℕ
  pub read : HasRead left left' text
  pub is_fault : read_text text ≡ Err fault

-- what was read if this error prevented that a job was read. `Write` isn't possible
abbrev pub HasReadNoJob : Option (List ℕ) → Option (List ℕ) → ReplayError → Type 0
HasReadNoJob left left' Read = Unit {0}
HasReadNoJob left left' Write = ⊥
HasReadNoJob left left' (Text fault) = HasFound left left' fault
HasReadNoJob left left' Memory = Unit {0}
