-- The lines of a plan, as lines of the definitions.
use Rattle.std.specs.Prelude.{ℕ, List, Option, Some, None, Result, Ok, Err}
use Rattle.model_jobs.specs.JobFiles.{class_in, number_in, words_in}
use Rattle.model_jobs.specs.Jobs.{Line, RunWorker, PairClass, BeginMesh, StepMesh, CancelMesh, StepClass as StepsClass, CancelClass as CancelsClass, WholeMesh, SweepGroup, MakeReport}
use Rattle.model_words.specs.Words.{◌>>=◌}
use Rattle.model_words.specs.declared.faults.FaultKind.{FaultKind}
use Rattle.text_job.specs.declared.plan.PlanLine.{PlanLine}
use Rattle.text_job.specs.declared.plan.PlanLine.TheVariants.{Run, Pair, Begin, Step, Cancel, StepClass, CancelClass, Whole, Sweep, Report}

-- the line of the definitions for a line of a plan
abbrev pub line_of : PlanLine → Line
line_of (Run worker) = RunWorker worker
line_of (Pair asked) = PairClass asked.value.class asked.value.rounds asked.value.words.items
line_of (Begin source destination) = BeginMesh source destination
line_of Step = StepMesh
line_of Cancel = CancelMesh
line_of (StepClass class) = StepsClass class
line_of (CancelClass class) = CancelsClass class
line_of (Whole source destination) = WholeMesh source destination
line_of (Sweep group) = SweepGroup group
line_of Report = MakeReport

-- the line of the definitions for a line that was read, or the fault
abbrev pub read_line : {E : Type 0} → Result PlanLine E → Result Line E
read_line (Ok line) = Ok (line_of line)
read_line (Err fault) = Err fault

-- a line of a mesh: without a class the bare line, and with a class the line of this class
abbrev pub line_of_mesh : Line → (ℕ → Line) → Option ℕ → Line
line_of_mesh bare of_class None = bare
line_of_mesh bare of_class (Some class) = of_class class

-- the search whose class, rounds and words these fields spell
abbrev pub search_in : List ℕ → List ℕ → List (List ℕ) → Result Line FaultKind
search_in size rounds words =
    class_in size >>= λ class. number_in 0 64 rounds >>= λ t. words_in words >>= λ read. Ok (PairClass class t read)
