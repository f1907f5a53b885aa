use Rattle.std.proofs.Common.{◌≤◌, slice_index, ap, arith, refl, rules, ◌∙◌}
use Rattle.savings_replay.specs.ClassLaws.{pages_needed}
use Rattle.savings_replay.specs.Placement.{table_of}
use Rattle.savings_report.proofs.PerfectPages.{are_perfect}
use Rattle.savings_report.specs.Perfect.{Perfect, sizes}
use Rattle.savings_report.proofs.perfect.Perfect.of.Goals as goal

pub returns-clause-value : goal.returns-clause-value
returns-clause-value c =
    let all : 10 ≤ c.loop-k.k = search rules in
    are_perfect (table_of c.args.placement.now) sizes c.objects_by_class-objects.result.now c.self-2.inside.pages refl c.objects_by_class-objects.ensures.value
    c.self-2.invariant.pages_are (λ k below.
    c.self-2.invariant.each k below
    ∙ ap (pages_needed (slice_index sizes k))
    (ap (λ (p : Perfect). slice_index p.objects k) c.self-2.view_is ∙ c.loop-k.invariant k (omega (arith, all, below))))
