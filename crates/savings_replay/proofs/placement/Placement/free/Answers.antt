use Rattle.std.proofs.Common.{IsSome, subst, sym}
use Rattle.mesh_spans.specs.Index.{record_at}
use Rattle.savings_replay.proofs.ClassChanges.{freed_counts, freed_pages_within, freed_within}
use Rattle.savings_replay.proofs.Freed.{IsVacated, freed}
use Rattle.savings_replay.proofs.Kept.{seen_of}
use Rattle.savings_replay.specs.Placement.{IsFreed, IsPlacement, Placement}
use Rattle.savings_replay.proofs.placement.Placement.free.Goals as goal
use Rattle.savings_replay.proofs.placement.Placement.free.Goals.{After-vacate}

-- the slot had an object, and was emptied
recorded : (c : After-vacate) → IsSome (record_at c.self.inside.spans c.args.span c.args.slot)
recorded c = subst (λ (p : Placement). IsSome (record_at p.index c.args.span c.args.slot)) (sym c.self.view_is) c.requires

vacated : (c : After-vacate) → IsVacated c.self.inside.spans c.vacate.new.self c.args.span c.args.slot
vacated c = record { spans = c.vacate.ensures.spans; groups = c.vacate.ensures.groups; table = c.vacate.ensures.table; closed = c.vacate.ensures.closed }

-- what the emptied slot leaves
left : (c : After-vacate) → IsPlacement (record (seen_of c.self.inside) { index = c.vacate.new.self })
    × IsFreed (seen_of c.self.inside) (record (seen_of c.self.inside) { index = c.vacate.new.self }) c.args.span c.args.slot
left c = freed (seen_of c.self.inside) c.vacate.new.self c.args.span c.args.slot c.self.invariant.0 c.sound.ensures
    (recorded c) (vacated c)

pub lower-requires : goal.lower-requires
lower-requires c =
    let at = (goal.at.lower-requires c).After-vacate in
    freed_pages_within c.self.inside.spans c.class_of-class.result c.args.span c.args.slot c.self.inside.held_pages.counts c.self.inside.class_objects.counts
    c.sound.ensures (recorded at) c.vacate.new.self c.empty_pages_at-pages.result c.class_of-class.ensures c.self.invariant.1 (vacated at)
    c.empty_pages_at-pages.ensures.value

pub lower-requires-2 : goal.lower-requires-2
lower-requires-2 c =
    let at = (goal.at.lower-requires-2 c).After-vacate in
    freed_within c.self.inside.spans c.class_of-class.result c.args.span c.args.slot c.self.inside.held_pages.counts c.self.inside.class_objects.counts
    c.sound.ensures (recorded at) c.vacate.new.self c.empty_pages_at-pages.result c.class_of-class.ensures c.self.invariant.1 (vacated at)
    c.empty_pages_at-pages.ensures.value

pub invariant_of-self : goal.invariant_of-self
invariant_of-self c =
    let at = (goal.at.invariant_of-self c).After-vacate in (
      (left at).0,
      rw (c.lower.ensures, c.lower-2.ensures) (freed_counts c.self.inside.spans c.class_of-class.result c.args.span c.args.slot c.self.inside.held_pages.counts
          c.self.inside.class_objects.counts c.sound.ensures (recorded at) c.vacate.new.self c.empty_pages_at-pages.result c.class_of-class.ensures
          c.self.invariant.1 (vacated at) c.empty_pages_at-pages.ensures.value),
    )

pub returns : goal.returns
returns c = rw (← c.self.view_is) (left (goal.at.returns c).After-vacate).1
