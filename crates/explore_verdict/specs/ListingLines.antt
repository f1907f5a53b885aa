-- The lines of a listing. This project's own choice.
use Rattle.std.specs.Prelude.{ℕ, Bool, not, ◌&&◌, ◌||◌, nat_eq, List, codes, length}
use Rattle.std.specs.List.{slice_split, starts_with}

-- the lines of a text. The last one may be without a line end, and is empty behind a line end
abbrev pub lines_of : List ℕ → List (List ℕ)
lines_of text = slice_split (λ b. nat_eq b 10) text

-- whether this is the line of a worker's answers in an outcome
abbrev pub is_worker_line : List ℕ → Bool
is_worker_line line = starts_with nat_eq line (codes "  worker ")

-- whether this is the first line of an outcome
abbrev pub is_outcome_line : List ℕ → Bool
is_outcome_line line = starts_with nat_eq line (codes "outcome")

-- whether this is the line of an outcome's end
abbrev pub is_end_line : List ℕ → Bool
is_end_line line = starts_with nat_eq line (codes "  end:")

-- whether this is the line of an outcome's plan
abbrev pub is_plan_line : List ℕ → Bool
is_plan_line line = starts_with nat_eq line (codes "  plan:")

-- whether this is the line of a command
abbrev pub is_command_line : List ℕ → Bool
is_command_line line = starts_with nat_eq line (codes "worker ")

-- whether this is the line of an answer to a command: any other line that begins with two spaces
abbrev pub is_answer_line : List ℕ → Bool
is_answer_line line = starts_with nat_eq line (codes "  ") && not (is_worker_line line || (is_end_line line || is_plan_line line))

-- whether this line belongs to neither a command nor an outcome: an empty line, or the one with the counts
abbrev pub is_free_line : List ℕ → Bool
is_free_line line = nat_eq (length line) 0 || starts_with nat_eq line (codes "interleavings ")
