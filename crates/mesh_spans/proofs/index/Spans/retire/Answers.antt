use Rattle.std.proofs.Common.{arith}
use Rattle.mesh_spans.specs.Groups.{groups_of}
use Rattle.mesh_spans.proofs.FlagLemmas.{none_flag, replaced_keeps, replaced_none, some_below}
use Rattle.mesh_spans.proofs.MergedTable.{groups_without}
use Rattle.mesh_spans.proofs.index.Spans.retire.Goals as goal

pub take-requires : goal.take-requires
take-requires c = some_below c.self.inside.groups c.args.n (rw (← c.self.view_is) at c.requires)

pub invariant_of-self : goal.invariant_of-self
invariant_of-self c =
    rw c.take.ensures.groups (replaced_keeps _ _ _ _ _ (replaced_none _ _ (some_below _ _ (rw (← c.self.view_is) at c.requires))) c.self.invariant)

pub returns-clause-table : goal.returns-clause-table
unfolding groups_of
returns-clause-table c = grind (arith, some_below, groups_without)

pub returns-clause-closed : goal.returns-clause-closed
returns-clause-closed c = grind (arith, some_below, none_flag)
