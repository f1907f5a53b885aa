use Rattle.std.proofs.Common.{None, arith}
use Rattle.mesh_spans.specs.Groups.{groups_of}
use Rattle.mesh_spans.proofs.IndexLemmas.{nothing_fits, recorded}
use Rattle.mesh_spans.proofs.FlagLemmas.{entry_closed, put_keeps}
use Rattle.mesh_spans.proofs.TableLemmas.{groups_put}
use Rattle.mesh_spans.proofs.index.Spans.vacate.Goals as goal

pub extent-requires : goal.extent-requires
extent-requires c = (recorded c.args.self.now c.args.span c.args.slot c.requires).below

pub put-requires-clause-there : goal.put-requires-clause-there
put-requires-clause-there c =
    let some = rw (← c.self.view_is) at c.requires in
    rw (c.group-group.ensures, c.extent.ensures, ← c.self.view_is) (c.self.invariant.0.numbered c.args.span (recorded _ c.args.span c.args.slot some).below)

pub put-requires-clause-fits : goal.put-requires-clause-fits
put-requires-clause-fits c =
    let some = rw (← c.self.view_is) at c.requires in
    rw (c.group-group.ensures, c.extent.ensures, ← c.self.view_is) (nothing_fits _ c.args.span c.args.slot c.self.invariant.0 some)

pub invariant_of-self : goal.invariant_of-self
invariant_of-self c =
    rw (c.put.ensures, c.group-group.ensures, c.extent.ensures, ← c.self.view_is) (put_keeps _ _ _ _ _ _
    (nothing_fits _ _ _ c.self.invariant.0 (rw (← c.self.view_is) at c.requires)) c.self.invariant)

pub returns-clause-groups : goal.returns-clause-groups
returns-clause-groups c = rw (c.put.ensures, c.group-group.ensures, c.extent.ensures, ← c.self.view_is)

pub returns-clause-table : goal.returns-clause-table
unfolding groups_of
returns-clause-table c = grind (arith, groups_put)

pub returns-clause-closed : goal.returns-clause-closed
returns-clause-closed c = λ m. rw (c.put.ensures, ← c.self.view_is) (entry_closed c.self.inside.groups c.group-group.result c.args.slot m None)
