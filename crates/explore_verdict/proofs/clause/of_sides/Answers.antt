use Rattle.std.proofs.Common.{List, ℕ, ◌∙◌, sym}
use Rattle.std.specs.Borrow.{Bor}
use Rattle.explore_verdict.proofs.Colons.{two_colons}
use Rattle.explore_verdict.proofs.clause.of_sides.Goals as goal

pub returns-then-is_some : goal.returns-then-is_some
returns-then-is_some c =
    two_colons (λ (p : Bor (List ℕ) × Bor (List ℕ)). p.0.now) (λ (p : Bor (List ℕ) × Bor (List ℕ)). p.1.now) c.args.text.now c.in-Some.number.now
    c.in-Some.answers.now c.cut-2.result c.in-Some.ensures.some c.cut-2.ensures.some (sym c.is_some.ensures ∙ c.if-is_some.true)
