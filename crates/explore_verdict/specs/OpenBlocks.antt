-- The outcome that a list has begun. This project's own choice.
use Rattle.std.specs.Prelude.{ℕ, ◌+◌, Bool, true, false, if◌then◌else◌, nat_eq, nat_lt, List, [], ◌∷◌, ◌++◌, Result, Ok, Err, drop}
use Rattle.std.specs.List.{insert, slice_split}
use Rattle.model_jobs.specs.JobFiles.{number_in}
use Rattle.model_jobs.specs.Texts.{ended}
use Rattle.model_words.specs.declared.faults.FaultKind.{FaultKind}

-- the lines of the workers, in the order of the workers, the lines of the end, and whether the workers' lines are over
pub record Opened : Type 0 where
  pub workers : List (List ℕ)
  pub end : List ℕ
  pub is_over : Bool

-- the number, or 0 if there is none
abbrev pub number_or_zero : Result ℕ FaultKind → ℕ
number_or_zero (Ok number) = number
number_or_zero (Err fault) = 0

-- the number that stands before the first colon, if there is one, or else in the whole text; 0 if there is none
abbrev pub number_of_sides : List (List ℕ) → ℕ
number_of_sides [] = 0
number_of_sides (number ∷ sides) = number_or_zero (number_in 0 63 number)

-- the worker of a line of a worker
abbrev pub worker_of : List ℕ → ℕ
worker_of line = number_of_sides (slice_split (λ b. nat_eq b 58) (drop 9 line))

-- the place of the first line of a worker above this one, or the number of lines
abbrev pub place_above : ℕ → List (List ℕ) → ℕ
place_above worker [] = 0
place_above worker (line ∷ lines) = if nat_lt worker (worker_of line) then 0 else place_above worker lines + 1

-- the lines with one more, before the first line of a worker above its own
abbrev pub with_line : List ℕ → List (List ℕ) → List (List ℕ)
with_line line lines = insert lines (place_above (worker_of line) lines) line

-- an outcome without lines
abbrev pub opened_block : Opened
opened_block = record { workers = []; end = []; is_over = false }

-- the outcome with the line of a worker
abbrev pub with_worker : List ℕ → Opened → Opened
with_worker line block = record block { workers = with_line (ended line) block.workers }

-- the outcome with the line of its end
abbrev pub with_end : List ℕ → Opened → Opened
with_end line block = record block { end = block.end ++ ended line; is_over = true }

-- the outcome, whose workers' lines are over
abbrev pub over : Opened → Opened
over block = record block { is_over = true }

-- the texts one behind another
abbrev pub joined : List (List ℕ) → List ℕ
joined [] = []
joined (text ∷ texts) = text ++ joined texts

-- the text of an outcome: the lines of the workers, and the lines of the end
abbrev pub block_text : Opened → List ℕ
block_text block = joined block.workers ++ block.end
