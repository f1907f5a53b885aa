-- The answer to a line of a session, and the state of the session after it.
use Rattle.std.specs.Prelude.{ℕ, List, [], ◌∷◌, ◌++◌, Result, Ok, Err, codes}
use Rattle.model_jobs.specs.Jobs.{Job, Next, State, answer, run_next}
use Rattle.model_jobs.specs.Texts.{answer_text, field}
use Rattle.model_words.specs.Faults.{kind_name_of}
use Rattle.model_words.specs.declared.faults.FaultKind.{FaultKind}
use Rattle.run_live.specs.LiveLines.{LiveLine, Attempt, Call, live_line}
use Rattle.run_live.specs.Sessions.{job_of}
use Rattle.run_live.specs.declared.sizes.Sizes.{Sizes}

-- the answer to a line. If the line is an attempt, its worker attempts this command, as if it were the worker's whole
-- script. Any other line is a line of a plan
abbrev pub live_answer : Job → State → LiveLine → Next
live_answer job state (Attempt worker command) = run_next job state worker (command ∷ [])
live_answer job state (Call line) = answer job state line

-- the text of an answer, without its end, and the state of the session after it
pub record Told : Type 0 where
  pub text : List ℕ
  pub state : State

-- the text of an answer, and the state of the session after it
abbrev pub told_next : Next → Told
told_next next = record { text = answer_text next.answer; state = next.state }

-- the text of the answer to a line of a session, and the state of the session after it
abbrev pub live_told : Sizes → State → LiveLine → Told
live_told sizes state line = told_next (live_answer (job_of sizes) state line)

-- the text of a fault
abbrev pub fault_text : FaultKind → List ℕ
fault_text kind = codes "fault" ++ field (kind_name_of kind)

-- the answer to a line that was read. If the line has a fault, the answer is the fault, and the state is unchanged
abbrev pub told_read : Sizes → State → Result LiveLine FaultKind → Told
told_read sizes state (Ok line) = live_told sizes state line
told_read sizes state (Err kind) = record { text = fault_text kind; state = state }

-- the answer to a text that is passed as a line
abbrev pub told : Sizes → State → List ℕ → Told
told sizes state line = told_read sizes state (live_line sizes.workers line)
