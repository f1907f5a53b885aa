-- The output of a replay that prints each line of the plan before its answer. This project's own choice.
use Rattle.std.specs.Prelude.{◌⊎◌, ℕ, List, [], ◌∷◌, ◌++◌, Option, Some, None, codes, slice_get, slice_index_or, take}
use Rattle.std.specs.Io.KnownBytes.{Appends, Keeps}
use Rattle.model_jobs.specs.Jobs.{Answer, Job, Line, RunWorker, State, answer, initial_state}
use Rattle.model_jobs.specs.Texts.{answer_text, command_text, ended, field, line_text}
use Rattle.model_words.specs.declared.commands.Command.{Command}
use Rattle.text_job.specs.Read.{HasFound}
use Rattle.text_devices.specs.Transfer.{AppendsBeginning}
use Rattle.text_devices.specs.declared.faults.ReplayError.{ReplayError}
use Rattle.text_devices.specs.declared.faults.ReplayError.TheVariants.{Read, Write, Text, Memory}
use Rattle.mesh_text.specs.Replay.{HasPlayed}

-- the command that a worker attempts next
abbrev pub next_command : State → ℕ → Option Command
next_command state worker = slice_get (slice_index_or state.scripts worker []) 0

-- a command with the space before it. Without a command, the text is empty
abbrev pub command_field : Option Command → List ℕ
command_field None = []
command_field (Some command) = field (command_text command)

-- what follows a line of the plan if the job is in this state before it: for a worker's attempt the attempted command
abbrev pub attempt_field : State → Line → List ℕ
attempt_field state (RunWorker worker) = command_field (next_command state worker)
attempt_field state line = []

-- what is printed before the answer to a line: the line as in a job file, the attempted command, and an arrow
abbrev pub echo_text : State → Line → List ℕ
echo_text state line = line_text line ++ attempt_field state line ++ codes " -> "

-- the line that is printed for a line of the plan and its answer, without its line end
abbrev pub echoed : State → Line → Answer → List ℕ
echoed state line given = echo_text state line ++ answer_text given

-- the lines that are printed for lines of the plan, from a state on
abbrev pub echo_from : Job → State → List Line → List ℕ
echo_from job state [] = []
echo_from job state (line ∷ lines) = let next = answer job state line in ended (echoed state line next.answer) ++ echo_from job next.state lines

-- the lines that are printed for the whole plan of a job
abbrev pub echo_output : Job → List ℕ
echo_output job = echo_from job (initial_state job) job.plan

-- the lines that are printed for the first `n` lines of a job's plan
abbrev pub echo_up_to : Job → ℕ → List ℕ
echo_up_to job n = echo_from job (initial_state job) (take n job.plan)

-- the input, a job, was read to its end, and each line of the job's plan was written with its answer
abbrev pub HasEchoed : Option (List ℕ) → Option (List ℕ) → Option (List ℕ) → Option (List ℕ) → Type 0
HasEchoed left left' written written' = HasPlayed left left' (λ job. Appends written written' (echo_output job))

-- the input, a job, was read to its end, and a beginning of the lines of the job's plan with their answers was written
abbrev pub HasBegunEcho : Option (List ℕ) → Option (List ℕ) → Option (List ℕ) → Option (List ℕ) → Type 0
HasBegunEcho left left' written written' = HasPlayed left left' (λ job. AppendsBeginning written written' (echo_output job))

-- the input, a job, was read to its end, and the first lines of the job's plan were written with their answers
abbrev pub HasEchoedLines : Option (List ℕ) → Option (List ℕ) → Option (List ℕ) → Option (List ℕ) → Type 0
HasEchoedLines left left' written written' = HasPlayed left left' (λ job. (n : ℕ) × Appends written written' (echo_up_to job n))

-- what was read and written before a replay with echo stopped for this error
abbrev pub HasStoppedEcho : Option (List ℕ) → Option (List ℕ) → Option (List ℕ) → Option (List ℕ) → ReplayError → Type 0
HasStoppedEcho left left' written written' Read = Keeps written written'
HasStoppedEcho left left' written written' Write = HasBegunEcho left left' written written'
HasStoppedEcho left left' written written' (Text fault) = HasFound left left' fault × Keeps written written'
HasStoppedEcho left left' written written' Memory = Keeps written written' ⊎ HasEchoedLines left left' written written'
