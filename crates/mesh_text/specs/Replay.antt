-- What a replay has read and written when it ends, and when it stops.
use Rattle.std.specs.Prelude.{◌≡◌, ◌⊎◌, ℕ, List, Option, Ok}
use Rattle.std.specs.Io.KnownBytes.{Appends, Consumes, IsAtEnd, Keeps}
use Rattle.model_jobs.specs.JobFiles.{replayed}
use Rattle.model_jobs.specs.Jobs.{Job}
use Rattle.model_jobs.specs.Texts.{output}
use Rattle.text_job.specs.Read.{HasFound, HasReadJob}
use Rattle.text_devices.specs.Transfer.{AppendsBeginning}
use Rattle.mesh_text.specs.Turns.{lines_up_to}
use Rattle.text_devices.specs.declared.faults.ReplayError.{ReplayError}
use Rattle.text_devices.specs.declared.faults.ReplayError.TheVariants.{Read, Write, Text, Memory}

-- the input was read to its end, and the answers that the definitions give for the job of its text were written
pub record HasReplayed (left left' written written' : Option (List ℕ)) : Type 0 where
  pub text : List ℕ
  pub taken : Consumes left left' text
  pub whole : IsAtEnd left'
  pub answers : List ℕ
  pub is_output : replayed text ≡ Ok answers
  pub wrote : Appends written written' answers

-- the input was read to its end, its text is a job, and this holds for the job
pub record HasPlayed (left left' : Option (List ℕ)) (Does : Job → Type 0) : Type 0 where
  pub job : Job
  pub read : HasReadJob left left' job
  pub does : Does job

-- the input, a job, was read to its end, and a beginning of the job's output was written
abbrev pub HasBegun : Option (List ℕ) → Option (List ℕ) → Option (List ℕ) → Option (List ℕ) → Type 0
HasBegun left left' written written' = HasPlayed left left' (λ job. AppendsBeginning written written' (output job))

-- the input, a job, was read to its end, and the answers to the first lines of the job's plan were written
abbrev pub HasAnswered : Option (List ℕ) → Option (List ℕ) → Option (List ℕ) → Option (List ℕ) → Type 0
HasAnswered left left' written written' = HasPlayed left left' (λ job. (n : ℕ) × Appends written written' (lines_up_to job n))

-- what was read and written before a replay stopped for this error
abbrev pub HasStopped : Option (List ℕ) → Option (List ℕ) → Option (List ℕ) → Option (List ℕ) → ReplayError → Type 0
HasStopped left left' written written' Read = Keeps written written'
HasStopped left left' written written' Write = HasBegun left left' written written'
HasStopped left left' written written' (Text fault) = HasFound left left' fault × Keeps written written'
HasStopped left left' written written' Memory = Keeps written written' ⊎ HasAnswered left left' written written'
