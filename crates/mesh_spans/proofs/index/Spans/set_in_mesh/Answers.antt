use Rattle.mesh_spans.specs.Groups.{groups_of}
use Rattle.mesh_spans.proofs.FlagLemmas.{replaced_flag, replaced_keeps, some_below}
use Rattle.mesh_spans.proofs.MergedTable.{groups_flagged}
use Rattle.mesh_spans.proofs.index.Spans.set_in_mesh.Goals as goal

pub set_in_mesh-requires : goal.set_in_mesh-requires
set_in_mesh-requires c = some_below c.self.inside.groups c.args.n (rw (← c.self.view_is) at c.requires)

pub invariant_of-self : goal.invariant_of-self
invariant_of-self c =
    rw c.set_in_mesh.ensures (replaced_keeps _ _ _ _ _ (replaced_flag _ _ _) c.self.invariant)

pub returns-clause-table : goal.returns-clause-table
unfolding groups_of
returns-clause-table c =
    rw (← c.self.view_is, c.set_in_mesh.ensures) (groups_flagged c.self.inside.spans.items 0 c.args.n c.args.in_mesh c.self.inside.groups)
