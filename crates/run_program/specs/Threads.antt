-- What a run of scripts in threads has read and written if it ends or stops, and what it prints then.
use Rattle.std.specs.Prelude.{◌≡◌, ℕ, ◌<◌, ◌≤◌, Bool, false, List, [], ◌++◌, Option, None, codes, length, slice_index_or}
use Rattle.std.specs.Io.KnownBytes.{Appends, Keeps}
use Rattle.std.specs.List.{sum_by}
use Rattle.model_jobs.specs.Jobs.{Job}
use Rattle.model_memory.specs.Memory.{empty_memory}
use Rattle.model_heap.specs.Table.{empty_table}
use Rattle.model_words.specs.declared.commands.Command.{Command}
use Rattle.mesh_mutator.specs.Book.{Book, memory_in, memory_of_book, table_of_book}
use Rattle.run_program.specs.Runs.{EndsBy, HasFailed, error_text}
use Rattle.run_program.specs.Seen.{Seen}
use Rattle.run_program.specs.Status.{status_of_error}
use Rattle.run_command_line.specs.declared.threads_args.ThreadsArgs.{ThreadsArgs}
use Rattle.run_program.specs.Words.{words_of}
use Rattle.run_program.specs.declared.printed.Printed.{Printed}
use Rattle.run_program.specs.declared.printed.Printed.TheVariants.{Answers, History as Recorded, Report}
use Rattle.run_program.specs.declared.threads_error.ThreadsError.{ThreadsError}
use Rattle.run_program.specs.declared.threads_error.ThreadsError.TheVariants.{Replay, TooShort, Thread, Run}
use Rattle.mesh_shared.specs.MesherRuns.{HasCounted}
use Rattle.mesh_shared.specs.Runs.{HasRun}
use Rattle.mesh_shared.specs.declared.mesher.Meshed.{Meshed}
use Rattle.mesh_shared.specs.declared.plan.MeshPlan.{MeshPlan}
use Rattle.mesh_shared.specs.declared.threads.Ran.{Ran}
use Rattle.mesh_shared.specs.declared.stops.RunError.{RunError}
use Rattle.mesh_shared.specs.declared.stops.RunError.TheVariants.{Memory as RunMemory, Thread as RunThread, History, Finish}
use Rattle.mesh_text.specs.Histories.{history_text}
use Rattle.mesh_text.specs.Recordings.{recorded_text}
use Rattle.run_report.specs.Reports.{run_report}
use Rattle.text_job.specs.Read.{HasFound, HasReadJob}
use Rattle.text_devices.specs.Transfer.{AppendsBeginning}
use Rattle.text_devices.specs.declared.faults.ReplayError.TheVariants.{Read, Write, Text, Memory as NoMemory}

-- the number of commands in all scripts
abbrev pub command_count : List (List Command) → ℕ
command_count scripts = sum_by length scripts

-- a job's history has room for all commands of its scripts
abbrev pub HasRoom : Job → Type 0
HasRoom job = command_count job.scripts ≤ job.history

-- a job's history has fewer entries than its scripts have commands
abbrev pub IsTooShort : Job → Type 0
IsTooShort job = job.history < command_count job.scripts

-- a mesher reported its number and all rounds that were asked for, and counted what it did in these rounds
pub record IsMesherOf (args : ThreadsArgs) (number : ℕ) (told : Meshed) : Type 0 where
  pub named : told.number ≡ number
  pub rounds : told.rounds ≡ args.rounds
  pub counted : HasCounted args.rounds None told.calls None told.counts

-- as many meshers as were asked for reported, in the order of their numbers
pub record HaveMeshed (args : ThreadsArgs) (told : List Meshed) : Type 0 where
  pub many : length told ≡ args.meshers
  pub each : (q : ℕ) (d : Meshed) → q < args.meshers → IsMesherOf args q (slice_index_or told q d)

-- the scripts were run to their ends, the meshers that were asked for made all rounds that were asked for, and each
-- worker reported
pub record IsRunOf (scripts : List (List Command)) (args : ThreadsArgs) (ran : Ran) : Type 0 where
  pub run : HasRun scripts ran.ended.history.items (memory_in ran.ended.heap ran.ended.roots)
  pub meshed : HaveMeshed args ran.meshers.items
  pub workers : length ran.workers.items ≡ length scripts

-- the printed text of a run with this number of workers: each worker's answers, the recorded history, or the answers
-- and what the threads did
abbrev pub text_of_run : Printed → ℕ → Ran → List ℕ
text_of_run Answers workers ran = history_text workers ran.ended.history.items
text_of_run Recorded workers ran = recorded_text ran.ended.history.items
text_of_run Report workers ran = history_text workers ran.ended.history.items ++ run_report ran

-- the scripts were run as the arguments ask for, and this is the printed text of the run
pub record IsTextOfRun (printed : Printed) (args : ThreadsArgs) (scripts : List (List Command)) (text : List ℕ) : Type 0 where
  pub ran : Ran
  pub run : IsRunOf scripts args ran
  pub is_text : text ≡ text_of_run printed (length scripts) ran

-- a job was read, and its history has room for the commands of its scripts. This is the printed text of a run of the
-- scripts
pub record HasRunJob (printed : Printed) (args : ThreadsArgs) (left left' : Option (List ℕ)) (text : List ℕ) : Type 0 where
  pub job : Job
  pub read : HasReadJob left left' job
  pub room : HasRoom job
  pub run : IsTextOfRun printed args job.scripts text

-- a job was read, its scripts were run, and the printed text of the run was written
abbrev pub HasWrittenRun : Printed → ThreadsArgs → Option (List ℕ) → Option (List ℕ) → Option (List ℕ) → Option (List ℕ) → Type 0
HasWrittenRun printed args left left' written written' = (text : List ℕ) × HasRunJob printed args left left' text × Appends written written' text

-- a job was read, its scripts were run, and a beginning of the printed text of the run was written
abbrev pub HasBegunToWrite : Printed → ThreadsArgs → Option (List ℕ) → Option (List ℕ) → Option (List ℕ) → Option (List ℕ) → Type 0
HasBegunToWrite printed args left left' written written' = (text : List ℕ) × HasRunJob printed args left left' text × AppendsBeginning written written' text

-- a job was read, and its history has room for all commands of its scripts
abbrev pub HasReadRoomy : Option (List ℕ) → Option (List ℕ) → Type 0
HasReadRoomy left left' = (job : Job) × HasReadJob left left' job × HasRoom job

-- a job was read, and its history is too short for the commands of its scripts
abbrev pub HasReadTooShort : Option (List ℕ) → Option (List ℕ) → Type 0
HasReadTooShort left left' = (job : Job) × HasReadJob left left' job × IsTooShort job

-- what was read and written before a run stopped for this error
abbrev pub HasStoppedRun : Printed → ThreadsArgs → Option (List ℕ) → Option (List ℕ) → Option (List ℕ) → Option (List ℕ) → ThreadsError → Type 0
HasStoppedRun printed args left left' written written' (Replay Read) = Keeps written written'
HasStoppedRun printed args left left' written written' (Replay Write) = HasBegunToWrite printed args left left' written written'
HasStoppedRun printed args left left' written written' (Replay (Text fault)) = HasFound left left' fault × Keeps written written'
HasStoppedRun printed args left left' written written' (Replay NoMemory) = Keeps written written'
HasStoppedRun printed args left left' written written' TooShort = HasReadTooShort left left' × Keeps written written'
HasStoppedRun printed args left left' written written' Thread = HasReadRoomy left left' × Keeps written written'
HasStoppedRun printed args left left' written written' Run = HasReadRoomy left left' × Keeps written written'

-- the device that the error names has failed. If the error isn't one of a replay, neither the input nor the output has
-- failed
abbrev pub HasFailedRun : Bool → Bool → ThreadsError → Type 0
HasFailedRun input output (Replay error) = HasFailed input output error
HasFailedRun input output TooShort = (input ≡ false) × (output ≡ false)
HasFailedRun input output Thread = (input ≡ false) × (output ≡ false)
HasFailedRun input output Run = (input ≡ false) × (output ≡ false)

-- the meshers' plan has the numbers that were asked for, and the words of the seed
pub record IsPlanOf (args : ThreadsArgs) (plan : MeshPlan) : Type 0 where
  pub tries : plan.t ≡ args.probe
  pub rounds : plan.rounds ≡ args.rounds
  pub searchers : plan.workers ≡ args.workers
  pub words : plan.words.items ≡ words_of args.seed args.rounds
  pub meshers : plan.meshers ≡ args.meshers

-- the book is empty and has the job's number of pages. Its journal is empty and has room for `job.history` entries
pub record IsBookOf (job : Job) (book : Book) : Type 0 where
  pub memory : memory_of_book book ≡ empty_memory
  pub table : table_of_book book ≡ empty_table job.pages
  pub entries : book.entries ≡ []
  pub room : book.room ≡ job.history

-- what holds of the job if its run gave no text for this error. The errors of a device or of the text aren't possible
abbrev pub IsNoRun : Job → ThreadsError → Type 0
IsNoRun job (Replay Read) = ⊥
IsNoRun job (Replay Write) = ⊥
IsNoRun job (Replay (Text fault)) = ⊥
IsNoRun job (Replay NoMemory) = Unit {0}
IsNoRun job TooShort = IsTooShort job
IsNoRun job Thread = HasRoom job
IsNoRun job Run = HasRoom job

-- an error's line, without its end
abbrev pub threads_text : ThreadsError → List ℕ
threads_text (Replay error) = error_text error
threads_text TooShort = codes "history too short"
threads_text Thread = codes "thread fault"
threads_text Run = codes "run fault"

-- an error's status: 2 if the text has a fault or the job's history is too short, otherwise 1
abbrev pub threads_status : ThreadsError → ℕ
threads_status (Replay error) = status_of_error error
threads_status TooShort = 2
threads_status Thread = 1
threads_status Run = 1

-- how a run of scripts in threads ends
abbrev pub EndsThreads : Printed → ThreadsArgs → Seen → Seen → ℕ → Type 0
EndsThreads printed args before after status =
    EndsBy threads_status threads_text HasFailedRun (HasWrittenRun printed args) (HasStoppedRun printed args) before after status

-- the run's error for an error that stops its threads. An allocation failure and a failed thread are reported as such.
-- Any other cause of a missing history is a failed run, even an allocation failure in `finish`
abbrev pub stop_of : RunError → ThreadsError
stop_of RunMemory = Replay NoMemory
stop_of RunThread = Thread
stop_of History = Run
stop_of (Finish fault) = Run
