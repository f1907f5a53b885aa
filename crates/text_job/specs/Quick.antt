-- The lines that are read in one pass over the text.
use Rattle.std.specs.Prelude.{◌≡◌, ℕ, List, ◌∷◌, ◌++◌}
use Rattle.model_jobs.specs.JobFiles.{IsValidCommand, IsValidLine}
use Rattle.model_jobs.specs.Texts.{command_text, line_text}
use Rattle.model_words.specs.declared.commands.Command.{Command}
use Rattle.model_words.specs.declared.versions.Version.{Version}
use Rattle.text_job.specs.Plan.{line_of}
use Rattle.text_job.specs.declared.plan.PlanLine.{PlanLine}

-- the text is the line of this command, a line end, and this rest, and the command is valid in every version
pub record IsQuickCommand (text : List ℕ) (command : Command) (rest : List ℕ) : Type 0 where
  pub spelt : text ≡ command_text command ++ 10 ∷ rest
  pub valid : (version : Version) → IsValidCommand version command

-- the text is this line of a plan, a line end, and this rest. The line is valid in a job of this version and this
-- number of workers
pub record IsQuickLine (version : Version) (workers : ℕ) (text : List ℕ) (line : PlanLine) (rest : List ℕ) : Type 0 where
  pub spelt : text ≡ line_text (line_of line) ++ 10 ∷ rest
  pub valid : IsValidLine version workers (line_of line)
