use Rattle.std.proofs.Common.{◌≡◌, Some, sym, ◌∙◌, arith}
use Rattle.std.proofs.lemmas.Grind.{common_steps}
use Rattle.mesh_spans.specs.Index.{group_at}
use Rattle.mesh_spans.proofs.TableLemmas.{no_group, open_parts, picked_in, table_none, table_open, vacant_in}
use Rattle.mesh_spans.proofs.index.Spans.open_slot.Goals as goal

pub returns-in_err-open-clause-none : goal.returns-in_err-open-clause-none
returns-in_err-open-clause-none c =
    rw c.from_residual.ensures (table_none _ _ _ _ c.self.view_is (sym c.lowest_open.ensures ∙ c.in_err-open.was))

pub returns-in_err-group-clause-none : goal.returns-in_err-group-clause-none
returns-in_err-group-clause-none c =
    absurd (no_group c.self.inside.groups c.args.class c.in_ok-open.open (sym c.lowest_open.ensures ∙ c.in_ok-open.was) (grind (arith, common_steps)))

pub returns-in_err-slot-clause-none : goal.returns-in_err-slot-clause-none
returns-in_err-slot-clause-none c =
    let at : group_at c.self.inside.groups c.in_ok-open.open ≡ Some c.in_ok-group.group.now = grind (arith, common_steps) in
    let parts = open_parts c.self.inside.groups c.args.class c.in_ok-open.open c.in_ok-group.group.now (sym c.lowest_open.ensures ∙ c.in_ok-open.was) at in
    absurd (cc (sym parts.1 ∙ c.in_err-slot.ensures.none))

pub returns-clause-picked : goal.returns-clause-picked
returns-clause-picked c =
    let at : group_at c.self.inside.groups c.in_ok-open.open ≡ Some c.in_ok-group.group.now = grind (arith, common_steps) in
    rw (
      table_open _ _ _ _ _ _ c.self.view_is (sym c.lowest_open.ensures ∙ c.in_ok-open.was) at,
      c.first_member.ensures,
    ) (picked_in _ _ _ _ _ _ _ c.self.view_is c.self.invariant.0 at c.in_ok-slot.ensures.picked)

pub returns-clause-vacant : goal.returns-clause-vacant
returns-clause-vacant c =
    let at : group_at c.self.inside.groups c.in_ok-open.open ≡ Some c.in_ok-group.group.now = grind (arith, common_steps) in
    let parts = open_parts _ _ _ _ (sym c.lowest_open.ensures ∙ c.in_ok-open.was) at in
    rw c.first_member.ensures (vacant_in _ _ _ _ _ _ _ c.self.view_is c.self.invariant.0 at parts.0 c.in_ok-slot.ensures.within c.in_ok-slot.ensures.free)
