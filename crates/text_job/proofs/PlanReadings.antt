-- The lines of a plan that were read.
use Rattle.std.proofs.Common.{◌≡◌, ℕ, ◌≤◌, List, ◌∷◌, ◌++◌, [], Ok, ap, sym, subst, ◌∙◌}
use Rattle.std.specs.Prelude.{map}
use Rattle.std.specs.List.{All}
use Rattle.std.proofs.lemmas.List.{map-append}
use Rattle.std.proofs.lemmas.List.Elements.{All-append, All-cons, All-nil}
use Rattle.model_jobs.specs.JobFiles.{IsValidLine, line_in}
use Rattle.model_jobs.specs.Jobs.{Line}
use Rattle.model_words.specs.declared.versions.Version.{Version}
use Rattle.model_jobs.proofs.LineReadings.{line_in_range}
use Rattle.text_job.specs.Plan.{line_of}
use Rattle.text_job.specs.declared.plan.PlanLine.{PlanLine}

-- a plan with one more line in its ranges
pub plan_fits_one : (version : Version) (workers : ℕ) (lines lines' : List PlanLine) (line : PlanLine) → lines' ≡ lines ++ line ∷ []
    → IsValidLine version workers (line_of line) → All (IsValidLine version workers) (map line_of lines) → All (IsValidLine version workers) (map line_of lines')
plan_fits_one version workers lines lines' line more fits fit =
    subst (λ (ls : List Line). All (IsValidLine version workers) ls)
    (sym (ap (map line_of) more ∙ map-append line_of lines (line ∷ [])))
    (All-append (IsValidLine version workers) (map line_of lines) (line_of line ∷ []) fit
    (All-cons (IsValidLine version workers) (line_of line) [] fits (All-nil (IsValidLine version workers))))

-- a line that was read is in its ranges, so a plan with it at its end is
pub plan_fits_more : (version : Version) (workers : ℕ) (word : List ℕ) (fields : List (List ℕ)) (lines lines' : List PlanLine) (line : PlanLine)
    → 1 ≤ workers → lines' ≡ lines ++ line ∷ [] → line_in version workers word fields ≡ Ok (line_of line)
    → All (IsValidLine version workers) (map line_of lines) → All (IsValidLine version workers) (map line_of lines')
plan_fits_more version workers word fields lines lines' line some more read fit =
    plan_fits_one version workers lines lines' line more (line_in_range version workers word fields (line_of line) some read) fit
