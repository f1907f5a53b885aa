use Rattle.std.proofs.Common.{◌++◌, List, ℕ, append_assoc, ap, ◌∙◌}
use Rattle.std.specs.Prelude.{codes}
use Rattle.model_jobs.specs.Texts.{line_text}
use Rattle.text_job.specs.Plan.{line_of}
use Rattle.mesh_text.specs.Echo.{attempt_field}
use Rattle.mesh_text.proofs.printed.add_echo.Goals as goal

pub returns : goal.returns
returns c = λ state at.
    let line : List ℕ = line_text (line_of c.args.line.now) in
    let attempt : List ℕ = attempt_field state (line_of c.args.line.now) in
    c.in_ok-extend_from_slice.ensures.items
    ∙ ap (λ (text : List ℕ). text ++ codes " -> ") (c.in_ok-add_attempted.ensures state at ∙ ap (λ (text : List ℕ). text ++ attempt) c.in_ok-add_plan_line.ensures
    ∙ append_assoc c.args.text.now.items line attempt)
    ∙ append_assoc c.args.text.now.items (line ++ attempt) (codes " -> ")
