-- What a replay prints for the lines of a plan: the answers alone, or each line before its answer.
use Rattle.std.specs.Prelude.{◌≡◌, ℕ, List, [], ◌++◌, Option, take}
use Rattle.std.specs.Io.KnownBytes.{Appends}
use Rattle.model_jobs.specs.Jobs.{Job, Line, State, answers_from, initial_state}
use Rattle.mesh_text.specs.Echo.{echo_from, echo_text}
use Rattle.mesh_text.specs.Turns.{lines_of}
use Rattle.mesh_text.specs.declared.printed.Printed.{Printed}
use Rattle.mesh_text.specs.declared.printed.Printed.TheVariants.{Answers, Echo}

-- what is printed before the answer to a line of the plan, if the job is in this state before the line
abbrev pub prefix_text : Printed → State → Line → List ℕ
prefix_text Answers state line = []
prefix_text Echo state line = echo_text state line

-- what is printed for lines of the plan, from a state on
abbrev pub printed_from : Printed → Job → State → List Line → List ℕ
printed_from Answers job state lines = lines_of (answers_from job state lines)
printed_from Echo job state lines = echo_from job state lines

-- what is printed for the whole plan of a job
abbrev pub printed_output : Printed → Job → List ℕ
printed_output printed job = printed_from printed job (initial_state job) job.plan

-- what is printed for the first `n` lines of a job's plan
abbrev pub printed_up_to : Printed → Job → ℕ → List ℕ
printed_up_to printed job n = printed_from printed job (initial_state job) (take n job.plan)

-- what is printed for the first lines of a job's plan was appended to known bytes
abbrev pub AppendsLines : Printed → Job → Option (List ℕ) → Option (List ℕ) → Type 0
AppendsLines printed job old new = (n : ℕ) × Appends old new (printed_up_to printed job n)

-- what is printed for some of the first `n` lines of the plan was written, and this text is printed for the others
pub record HasGathered (printed : Printed) (job : Job) (n : ℕ) (old new : Option (List ℕ)) (text : List ℕ) : Type 0 where
  pub lines : ℕ
  pub wrote : Appends old new (printed_up_to printed job lines)
  pub all : printed_up_to printed job lines ++ text ≡ printed_up_to printed job n
