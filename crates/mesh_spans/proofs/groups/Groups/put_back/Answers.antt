use Rattle.mesh_spans.proofs.CountLemmas.{totals_few}
use Rattle.mesh_spans.proofs.KeptLemmas.{AreKept_back}
use Rattle.mesh_spans.proofs.groups.Groups.put_back.Goals as goal

pub with_group-self-inside-requires-clause-few : goal.with_group-self-inside-requires-clause-few
with_group-self-inside-requires-clause-few c = totals_few _ _ c.self.invariant.few c.self.invariant.each c.self.invariant.counted

pub with_group-self-inside-requires-clause-one : goal.with_group-self-inside-requires-clause-one
with_group-self-inside-requires-clause-one c = c.of-filed.ensures.few

pub invariant_of-self : goal.invariant_of-self
invariant_of-self c =
    rw (c.file.ensures.bins, c.with_group-self-inside.ensures, c.of-filed.ensures.bin, c.of-filed.ensures.counts)
    (AreKept_back _ _ _ _ _ (rw c.self.view_is c.requires.there) (rw c.self.view_is c.requires.free) c.of-filed.ensures.sound c.self.invariant)
