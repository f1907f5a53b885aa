-- What a replay that writes a recorded history has read and written when it ends, and when it stops.
use Rattle.std.specs.Prelude.{ℕ, List, Option}
use Rattle.std.specs.Io.KnownBytes.{Appends, Keeps}
use Rattle.model_memory.specs.Plain.{Entry}
use Rattle.model_jobs.specs.Jobs.{Job, initial_state, state_after}
use Rattle.mesh_text.specs.Recordings.{recorded_text}
use Rattle.text_job.specs.Read.{HasFound}
use Rattle.mesh_text.specs.Replay.{HasPlayed}
use Rattle.text_devices.specs.Transfer.{AppendsBeginning}
use Rattle.text_devices.specs.declared.faults.ReplayError.{ReplayError}
use Rattle.text_devices.specs.declared.faults.ReplayError.TheVariants.{Read, Write, Text, Memory}

-- the journal that the plan of a job leaves
abbrev pub journal_of : Job → List Entry
journal_of job = (state_after job (initial_state job) job.plan).entries

-- the input, a job, was read to its end, and the recorded history of the job's journal was written
abbrev pub HasReplayedRecorded : Option (List ℕ) → Option (List ℕ) → Option (List ℕ) → Option (List ℕ) → Type 0
HasReplayedRecorded left left' written written' = HasPlayed left left' (λ job. Appends written written' (recorded_text (journal_of job)))

-- the input, a job, was read to its end, and a beginning of the recorded history of the job's journal was written
abbrev pub HasBegunRecorded : Option (List ℕ) → Option (List ℕ) → Option (List ℕ) → Option (List ℕ) → Type 0
HasBegunRecorded left left' written written' = HasPlayed left left' (λ job. AppendsBeginning written written' (recorded_text (journal_of job)))

-- what was read and written before a recorded replay stopped for this error
abbrev pub HasStoppedRecorded : Option (List ℕ) → Option (List ℕ) → Option (List ℕ) → Option (List ℕ) → ReplayError → Type 0
HasStoppedRecorded left left' written written' Read = Keeps written written'
HasStoppedRecorded left left' written written' Write = HasBegunRecorded left left' written written'
HasStoppedRecorded left left' written written' (Text fault) = HasFound left left' fault × Keeps written written'
HasStoppedRecorded left left' written written' Memory = Keeps written written'
