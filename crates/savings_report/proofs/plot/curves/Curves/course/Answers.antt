use Rattle.std.proofs.Common.{◌+◌, ◌<◌, ◌^◌, sym, subst, arith, rules}
use Rattle.savings_report.specs.Intervals.{Gathered, IsOf}
use Rattle.savings_report.proofs.CourseLemmas.{is_series}
use Rattle.savings_report.proofs.plot.curves.Curves.course.Goals as goal

pub overflow_add-result : goal.overflow_add-result
overflow_add-result c =
    let few : c.saturating_sub-before.result + c.self.inside.intervals.count < 2 ^ 32 = omega (arith, c.self.invariant.1, c.self.invariant.2, c.saturating_sub-before.ensures) in
    search rules

pub returns-clause-value : goal.returns-clause-value
returns-clause-value c = λ window samples h.
    let g = subst (λ (f : Gathered). IsOf f window samples) (sym c.self.view_is) h in
    rw (c.used.ensures, c.saturating_sub-before.ensures) (is_series _ window samples g)
