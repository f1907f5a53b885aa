-- Why a text is no list of outcomes. This project's own choice.
use Rattle.std.specs.Prelude.{ℕ, ◌+◌, Bool, false, ◌||◌, if◌then◌else◌, nat_eq, List, [], ◌∷◌, Option, Some, None, codes}
use Rattle.std.specs.List.{list_any, starts_with}
use Rattle.std.specs.Option.{option_or}
use Rattle.explore_verdict.specs.ListingLines.{is_answer_line, is_command_line, is_end_line, is_free_line, is_outcome_line, is_plan_line, is_worker_line, lines_of}
use Rattle.explore_verdict.specs.declared.list_faults.ListFault.{ListFault}
use Rattle.explore_verdict.specs.declared.list_faults.ListFault.TheVariants.{CarriageReturn, OtherLine, NoOutcome}
use Rattle.explore_verdict.specs.declared.list_faults.Open.{Open}
use Rattle.explore_verdict.specs.declared.list_faults.Open.TheVariants.{Nothing, Outcome, Command}

-- whether the line has a carriage return
abbrev pub has_return : List ℕ → Bool
has_return line = list_any (λ b. nat_eq b 13) line

-- whether the line begins or continues an outcome without its end and its plan
abbrev pub opens_outcome : List ℕ → Bool
opens_outcome line = is_worker_line line || is_outcome_line line

-- what is open behind a line. The end and the plan of an outcome, and an answer, leave open what is open
abbrev pub open_behind : List ℕ → Open → Open
open_behind line open_before =
    if opens_outcome line then Outcome
    else (if is_command_line line then Command else (if starts_with nat_eq line (codes "  ") then open_before else Nothing))

-- whether a line of an outcome's end or plan, or of an answer, may come where this is open
abbrev pub may_continue : List ℕ → Open → Bool
may_continue line Nothing = false
may_continue line Outcome = is_end_line line || is_plan_line line
may_continue line Command = is_answer_line line

-- whether a listing or a list of outcomes may have the line where this is open
abbrev pub may_come : List ℕ → Open → Bool
may_come line open_before = is_free_line line || (is_command_line line || (opens_outcome line || may_continue line open_before))

-- the fault of the line of this number, if it has one
abbrev pub line_fault : ℕ → List ℕ → Open → Option ListFault
line_fault number line open_before =
    if has_return line then Some (CarriageReturn number) else (if may_come line open_before then None else Some (OtherLine number))

-- the fault of the first faulty line. The first line has this number, and this is open before it
abbrev pub lines_fault : ℕ → Open → List (List ℕ) → Option ListFault
lines_fault number open_before [] = None
lines_fault number open_before (line ∷ lines) =
    option_or (line_fault number line open_before) (lines_fault (number + 1) (open_behind line open_before) lines)

-- whether the line is of something that is compared
abbrev pub is_listed_line : List ℕ → Bool
is_listed_line line = is_command_line line || opens_outcome line

-- why lines are no list of outcomes. The first line has this number, this is open before it, and the lines before it
-- list something or don't
abbrev pub list_fault_from : ℕ → Open → Bool → List (List ℕ) → Option ListFault
list_fault_from number open_before is_listed lines =
    option_or (lines_fault number open_before lines) (if is_listed || list_any is_listed_line lines then None else Some NoOutcome)

-- why a text is no list of outcomes, or None if it is one
abbrev pub list_fault : List ℕ → Option ListFault
list_fault text = list_fault_from 1 Nothing false (lines_of text)

-- the same of a text that may be missing
abbrev pub list_fault_in : Option (List ℕ) → Option ListFault
list_fault_in None = None
list_fault_in (Some text) = list_fault text
