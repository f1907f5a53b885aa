-- The outcomes that a text lists, each as a text. This project's own choice.
use Rattle.std.specs.Prelude.{ℕ, Bool, false, not, ◌&&◌, ◌||◌, if◌then◌else◌, List, [], ◌∷◌, ◌++◌, Option, Some, None, option_map, unwrap_or}
use Rattle.explore_verdict.specs.ListingLines.{is_end_line, is_outcome_line, is_plan_line, is_worker_line, lines_of}
use Rattle.explore_verdict.specs.OpenBlocks.{Opened, block_text, opened_block, over, with_end, with_worker}

-- the list of the text of the outcome that has begun, or an empty list if none has
abbrev pub of_begun : Option Opened → List (List ℕ)
of_begun None = []
of_begun (Some block) = block_text block ∷ []

-- whether an outcome has begun whose workers' lines are over
abbrev pub is_over : Option Opened → Bool
is_over None = false
is_over (Some block) = block.is_over

-- whether the line continues the outcome that has begun: the line of a worker if the workers' lines aren't over, the
-- line of the end, or the line of the plan
abbrev pub continues : List ℕ → Option Opened → Bool
continues line begun = (is_worker_line line && not (is_over begun)) || (is_end_line line || is_plan_line line)

-- the outcome that goes on behind a line, if it has begun
abbrev pub kept_begun : List ℕ → Option Opened → Option Opened
kept_begun line begun = if continues line begun then begun else None

-- the outcome that has begun behind a line, from the one that goes on
abbrev pub begun_with : List ℕ → Option Opened → Option Opened
begun_with line kept =
    if is_worker_line line then Some (with_worker line (unwrap_or kept opened_block))
    else (if is_end_line line then option_map (with_end line) kept
    else (if is_plan_line line then option_map over kept
    else (if is_outcome_line line then Some opened_block else None)))

-- the texts of the outcomes of these lines after this begun outcome, if there is one
abbrev pub blocks_from : Option Opened → List (List ℕ) → List (List ℕ)
blocks_from begun [] = of_begun begun
blocks_from begun (line ∷ lines) =
    (if continues line begun then [] else of_begun begun) ++ blocks_from (begun_with line (kept_begun line begun)) lines

-- the texts of the outcomes of a text: each the lines of its workers, in the order of the workers, and the line of its
-- end if it has one
abbrev pub blocks_of : List ℕ → List (List ℕ)
blocks_of text = blocks_from None (lines_of text)
