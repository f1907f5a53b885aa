-- The answers to commands that a text lists, each as a text. This project's own choice.
use Rattle.std.specs.Prelude.{ℕ, Bool, true, false, if◌then◌else◌, List, [], ◌∷◌, ◌++◌, Option, Some, None, option_map}
use Rattle.model_jobs.specs.Texts.{ended}
use Rattle.explore_verdict.specs.ListingLines.{is_answer_line, is_command_line, lines_of}

-- the command that a list has begun: its line, and whether the list has an answer to it
pub record OpenCommand : Type 0 where
  pub line : List ℕ
  pub is_answered : Bool

-- a command without answers
abbrev pub opened_command : List ℕ → OpenCommand
opened_command line = record { line = ended line; is_answered = false }

-- the command, which has an answer
abbrev pub answered : OpenCommand → OpenCommand
answered command = record command { is_answered = true }

-- the line of a command to which there is no answer
abbrev pub lone : Option OpenCommand → List (List ℕ)
lone None = []
lone (Some command) = if command.is_answered then [] else command.line ∷ []

-- the line of the command and the line of an answer to it
abbrev pub answer_to : List ℕ → Option OpenCommand → List (List ℕ)
answer_to line None = []
answer_to line (Some command) = (command.line ++ ended line) ∷ []

-- what a line adds
abbrev pub added_by : List ℕ → Option OpenCommand → List (List ℕ)
added_by line begun = if is_answer_line line then answer_to line begun else lone begun

-- the command that has begun behind a line
abbrev pub command_behind : List ℕ → Option OpenCommand → Option OpenCommand
command_behind line begun =
    if is_answer_line line then option_map answered begun else (if is_command_line line then Some (opened_command line) else None)

-- the answers of these lines after this begun command, if there is one
abbrev pub answers_from : Option OpenCommand → List (List ℕ) → List (List ℕ)
answers_from begun [] = lone begun
answers_from begun (line ∷ lines) = added_by line begun ++ answers_from (command_behind line begun) lines

-- the answers of a text: the line of each command with the line of one of its answers, or alone if it has none
abbrev pub answers_of : List ℕ → List (List ℕ)
answers_of text = answers_from None (lines_of text)
