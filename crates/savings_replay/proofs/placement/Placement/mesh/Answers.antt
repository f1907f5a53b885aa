use Rattle.std.proofs.Common.{subst, sym}
use Rattle.savings_replay.proofs.ClassChanges.{meshed_counts, meshed_within}
use Rattle.savings_replay.proofs.Kept.{seen_of}
use Rattle.mesh_spans.proofs.PairLemmas.{entry_in_table}
use Rattle.savings_replay.proofs.WholeMeshes.{IsMerged, meshed_kept, meshed_now, pages_taken}
use Rattle.savings_replay.specs.Meshes.{MayMesh}
use Rattle.savings_replay.specs.Placement.{Placement}
use Rattle.savings_replay.proofs.placement.Placement.mesh.Goals as goal
use Rattle.savings_replay.proofs.placement.Placement.mesh.Goals.{After-merge}

-- the two groups may be meshed
may_inside : (c : After-merge) → MayMesh c.self.inside.spans c.args.source c.args.destination c.in_ok-class.class c.in_ok-class.meshed.pages c.in_ok-class.held c.in_ok-class.meshed.bytes
may_inside c = subst (λ (p : Placement). MayMesh p.index c.args.source c.args.destination c.in_ok-class.class c.in_ok-class.meshed.pages c.in_ok-class.held c.in_ok-class.meshed.bytes)
    (sym c.self.view_is) c.in_ok-class.ensures.may

-- and were merged in the index
merged : (c : After-merge) → IsMerged c.self.inside.spans c.merge.new.self c.args.source c.args.destination (may_inside c).merge.pair.a (may_inside c).merge.pair.b
merged c = record {
  merges = c.merge.ensures.merges (may_inside c).merge.pair.a (may_inside c).merge.pair.b (may_inside c).merge.pair.source (may_inside c).merge.pair.destination;
  table = c.merge.ensures.table _ (entry_in_table c.self.inside.spans c.args.source (may_inside c).merge.pair.a (may_inside c).merge.pair.source);
  closed = c.merge.ensures.closed;
}

pub lower-requires : goal.lower-requires
lower-requires c =
    let at = (goal.at.lower-requires c).After-merge in
    meshed_within c.self.inside.spans c.merge.new.self c.args.source c.args.destination c.in_ok-class.class c.in_ok-class.meshed.pages c.in_ok-class.held
    c.in_ok-class.meshed.bytes
    c.self.inside.held_pages.counts c.self.inside.class_objects.counts c.sound.ensures (may_inside at) (merged at).merges c.self.invariant.1

pub overflow_sub-self : goal.overflow_sub-self
overflow_sub-self c =
    let at = (goal.at.overflow_sub-self c).After-merge in
    pages_taken (seen_of c.self.inside) c.merge.new.self c.args.source c.args.destination c.in_ok-class.class c.in_ok-class.meshed.pages c.in_ok-class.held c.in_ok-class.meshed.bytes
    c.self.invariant.0 c.sound.ensures (may_inside at) (merged at)

pub invariant_of-self : goal.invariant_of-self
invariant_of-self c =
    let at = (goal.at.invariant_of-self c).After-merge in (
      meshed_kept (seen_of c.self.inside) c.merge.new.self c.args.source c.args.destination c.in_ok-class.class c.in_ok-class.meshed.pages c.in_ok-class.held c.in_ok-class.meshed.bytes
          c.self.invariant.0 c.sound.ensures (may_inside at) (merged at),
      rw c.lower.ensures (meshed_counts c.self.inside.spans c.merge.new.self c.args.source c.args.destination c.in_ok-class.class c.in_ok-class.meshed.pages c.in_ok-class.held
          c.in_ok-class.meshed.bytes c.self.inside.held_pages.counts c.self.inside.class_objects.counts c.sound.ensures (may_inside at)
          (merged at).merges
          c.self.invariant.1),
    )

pub returns-clause-meshed : goal.returns-clause-meshed
returns-clause-meshed c =
    let at = (goal.at.returns-clause-meshed c).After-merge in
    rw (← c.self.view_is) (meshed_now (seen_of c.self.inside) c.merge.new.self c.args.source c.args.destination c.in_ok-class.class c.in_ok-class.meshed.pages c.in_ok-class.held
    c.in_ok-class.meshed.bytes c.self.invariant.0 c.sound.ensures (may_inside at) (merged at))
