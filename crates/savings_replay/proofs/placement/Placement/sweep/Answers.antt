use Rattle.std.proofs.Common.{count_by, is_some, subst, sym, ◌∙◌}
use Rattle.std.proofs.lemmas.Bool.{eqb-true}
use Rattle.savings_replay.proofs.ClassChanges.{retired_counts}
use Rattle.savings_replay.proofs.Kept.{seen_of}
use Rattle.savings_replay.proofs.Swept.{IsRetired, filled_stays, none_stays, pages_taken, retired_kept, retired_now}
use Rattle.savings_replay.specs.Placement.{IsSweptAt, Placement}
use Rattle.savings_replay.proofs.placement.Placement.sweep.Goals as goal
use Rattle.savings_replay.proofs.placement.Placement.sweep.Goals.{After-retire}

pub returns-in_default : goal.returns-in_default
returns-in_default c = subst (λ (p : Placement). IsSweptAt p p c.args.n) c.self.view_is (none_stays (seen_of c.self.inside) c.args.n (sym c.in_default.ensures))

pub returns-then-not-is_empty : goal.returns-then-not-is_empty
returns-then-not-is_empty c = subst (λ (p : Placement). IsSweptAt p p c.args.n) c.self.view_is
    (filled_stays (seen_of c.self.inside) c.args.n c.in-Some.group.now (sym c.in-Some.ensures) (sym c.is_empty.ensures ∙ c.if-not-is_empty.true))

-- the group was taken out of the index
retired : (c : After-retire) → IsRetired c.self.inside.spans c.retire.new.self c.args.n
retired c = record { spans = c.retire.ensures.spans; groups = c.retire.ensures.groups; table = c.retire.ensures.table; closed = c.retire.ensures.closed }

pub overflow_sub-self : goal.overflow_sub-self
overflow_sub-self c =
    let at = (goal.at.overflow_sub-self c).After-retire in
    pages_taken (seen_of c.self.inside) c.retire.new.self c.args.n c.pages-pages.result c.in-Some.group.now c.self.invariant.0 (sym c.in-Some.ensures)
    (sym c.is_empty.ensures ∙ c.if-not-is_empty.false) (rw (← c.class.ensures) c.pages-pages.ensures.value) (retired at)

pub invariant_of-self : goal.invariant_of-self
invariant_of-self c =
    let at = (goal.at.invariant_of-self c).After-retire in (
      retired_kept (seen_of c.self.inside) c.retire.new.self c.args.n c.pages-pages.result c.in-Some.group.now c.self.invariant.0 (sym c.in-Some.ensures)
          (sym c.is_empty.ensures ∙ c.if-not-is_empty.false) (rw (← c.class.ensures) c.pages-pages.ensures.value) (retired at),
      retired_counts c.self.inside.spans c.retire.new.self c.class.result c.args.n c.in-Some.group.now c.self.inside.held_pages.counts
          c.self.inside.class_objects.counts (sym c.in-Some.ensures) (sym c.class.ensures) c.self.invariant.1
          (eqb-true (count_by is_some c.in-Some.group.now.slots) 0 (sym c.is_empty.ensures ∙ c.if-not-is_empty.false)) (retired at),
    )

pub returns : goal.returns
returns c =
    let at = (goal.at.returns c).After-retire in
    rw (← c.self.view_is) (retired_now (seen_of c.self.inside) c.retire.new.self c.args.n c.pages-pages.result c.in-Some.group.now c.self.invariant.0
    (sym c.in-Some.ensures)
    (sym c.is_empty.ensures ∙ c.if-not-is_empty.false) (rw (← c.class.ensures) c.pages-pages.ensures.value) (retired at))
