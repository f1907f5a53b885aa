-- The lines of a plan.
use Rattle.std.proofs.Common.{◌≡◌, ℕ, ◌+◌, ◌<◌, ◌≤◌, List, [], ◌∷◌, ◌++◌, map, length, get_or, take, ap, sym, subst, ◌∙◌, arith}
use Rattle.std.specs.List.{All}
use Rattle.std.proofs.lemmas.List.{get_or-map, length-map, take_all, take_more}
use Rattle.std.proofs.lemmas.List.Elements.{All-get_or}
use Rattle.model_jobs.specs.JobFiles.{IsValidLine}
use Rattle.model_jobs.specs.Jobs.{Line}
use Rattle.model_words.specs.declared.versions.Version.{Version}
use Rattle.text_job.specs.declared.plan.PlanLine.{PlanLine}
use Rattle.text_job.specs.Plan.{line_of}

-- a line of a plan whose lines are all right
pub line_fits : (version : Version) (workers : ℕ) (lines : List PlanLine) (plan : List Line) (i : ℕ) (d line : PlanLine) → map line_of lines ≡ plan
    → All (IsValidLine version workers) plan → i < length lines → line ≡ get_or lines i d → IsValidLine version workers (line_of line)
line_fits version workers lines plan i d line is fit within here =
    let all = subst (All (IsValidLine version workers)) (sym is) fit in
    subst (IsValidLine version workers) (get_or-map line_of lines i d (line_of d) within ∙ ap line_of (sym here))
    (All-get_or (IsValidLine version workers) (map line_of lines) i (line_of d) (omega (arith, within, length-map lines line_of)) all)

-- as many lines as there are in the code
pub lines_count : (lines : List PlanLine) (plan : List Line) → map line_of lines ≡ plan → length plan ≡ length lines
lines_count lines plan is = ap (λ (ls : List Line). length ls) (sym is) ∙ length-map lines line_of

-- one more line of a plan
pub one_more : (lines : List PlanLine) (plan : List Line) (i : ℕ) (d line : PlanLine) → map line_of lines ≡ plan → i < length lines
    → line ≡ get_or lines i d → take (i + 1) plan ≡ take i plan ++ line_of line ∷ []
one_more lines plan i d line is within this =
    let here : get_or plan i (line_of d) ≡ line_of line
    = ap (λ (ls : List Line). get_or ls i (line_of d)) (sym is) ∙ get_or-map line_of lines i d (line_of d) within ∙ ap line_of (sym this) in
    take_more plan i (line_of d) (omega (arith, within, lines_count lines plan is)) ∙ ap (λ l. take i plan ++ l ∷ []) here

-- all lines of a plan
pub all_lines : (lines : List PlanLine) (plan : List Line) (i : ℕ) → map line_of lines ≡ plan → length lines ≤ i → take i plan ≡ plan
all_lines lines plan i is past = take_all i plan (omega (arith, past, lines_count lines plan is))

-- a place in a plan is one among its lines
pub within_lines : (lines : List PlanLine) (plan : List Line) (i : ℕ) → map line_of lines ≡ plan → i < length plan → i < length lines
within_lines lines plan i is within = omega (arith, within, lines_count lines plan is)
