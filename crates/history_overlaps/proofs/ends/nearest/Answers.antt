use Rattle.std.proofs.Common.{ℕ, Option, refl, subst, sym}
use Rattle.std.specs.Prelude.{IsSome}
use Rattle.history_overlaps.proofs.MapSteps.{at_most, not_greater, not_less}
use Rattle.history_overlaps.proofs.ends.nearest.Goals as goal

pub returns : goal.returns
returns c =
    let entry : ℕ × ℕ = (c.in_ok-cell.field-0-0.now, c.in_ok-cell.cell.now) in
    let found = c.range.ensures.in_range tt in
    let there = found.3 entry c.next_back.new.self c.in_ok-cell.ensures.steps in (
      entry.0,
      at_most _ _ there.0.1,
      there.1,
      λ q k below at. not_less _ _ (found.4 entry c.next_back.new.self c.in_ok-cell.ensures.steps q (tt, not_greater _ _ below)
          (subst (λ (o : Option ℕ). IsSome o) (sym at) refl)),
    )
