use Rattle.std.proofs.Common.{arith}
use Rattle.model_heap.specs.Table.{Slot}
use Rattle.mesh_spans.specs.Groups.{groups_of}
use Rattle.mesh_spans.proofs.FlagLemmas.{put_keeps}
use Rattle.mesh_spans.proofs.IndexLemmas.{vacant_fits}
use Rattle.mesh_spans.proofs.TableLemmas.{groups_put}
use Rattle.mesh_spans.proofs.index.Spans.occupy.Goals as goal

pub put-requires-clause-there : goal.put-requires-clause-there
put-requires-clause-there c = grind arith

pub put-requires-clause-fits : goal.put-requires-clause-fits
put-requires-clause-fits c = grind arith

pub invariant_of-self : goal.invariant_of-self
invariant_of-self c =
    let fits = rw (← c.self.view_is) at c.requires.fits in
    let object : Slot = record { member = c.first.result; serial = c.args.serial; len = c.args.len } in
    rw (c.put.ensures, c.group-group.ensures, c.extent-extent.ensures, ← c.self.view_is) (put_keeps _ _ _ _ _ _
    (vacant_fits _ _ _ object (rw (← c.self.view_is) at c.requires.vacant) (c.requires.some, fits)) c.self.invariant)

pub returns-clause-table : goal.returns-clause-table
unfolding groups_of
returns-clause-table c = grind (arith, groups_put)
