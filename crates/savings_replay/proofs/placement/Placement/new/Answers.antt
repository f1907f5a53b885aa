use Rattle.std.proofs.Common.{◌+◌, arith}
use Rattle.mesh_class.specs.Classes.{IsClass}
use Rattle.savings_replay.proofs.ClassChanges.{objects_entry_few, occupied_counts, pages_entry_few, vacant_class}
use Rattle.savings_replay.proofs.Kept.{seen_of}
use Rattle.savings_replay.proofs.Placed.{placed_open}
use Rattle.savings_replay.specs.Placement.{IsMade, IsPlacement}
use Rattle.savings_replay.proofs.placement.Placement.new.Goals as goal
use Rattle.savings_replay.proofs.placement.Placement.new.Goals.{After-occupy}

-- what the object put into the open group leaves
left : (c : After-occupy) → IsPlacement (record (seen_of c.self.inside) { index = c.occupy.new.self; next_serial = c.self.inside.next_serial + 1 })
    × IsMade (seen_of c.self.inside) (record (seen_of c.self.inside) { index = c.occupy.new.self; next_serial = c.self.inside.next_serial + 1 })
    c.args.len c.args.word c.in-Some.place.0 c.in-Some.place.1
left c = placed_open (seen_of c.self.inside) c.occupy.new.self c.in_ok-class.class c.args.len c.args.word c.in-Some.place.0 c.in-Some.place.1 c.self.invariant.0
    c.in_ok-class.ensures.least c.in_ok-class.ensures.some c.in-Some.ensures.picked c.in-Some.ensures.vacant
    (record { spans = c.occupy.ensures.spans; groups = c.occupy.ensures.groups; table = c.occupy.ensures.table; closed = c.occupy.ensures.closed })

-- the class is one
is_class : (c : After-occupy) → IsClass c.in_ok-class.class
is_class c = vacant_class c.self.inside.spans c.in_ok-class.class c.in-Some.place.0 c.in-Some.place.1 c.sound.ensures c.in-Some.ensures.vacant

pub raise-requires : goal.raise-requires
raise-requires c =
    let few = pages_entry_few (seen_of c.self.inside) c.in_ok-class.class c.self.inside.held_pages.counts c.self.inside.class_objects.counts
    (is_class (goal.at.raise-requires c).After-occupy) c.self.invariant.0 c.self.invariant.1 in
    let three = c.empty_pages_at-pages.ensures.few in omega (arith, few, three)

pub raise-requires-2 : goal.raise-requires-2
raise-requires-2 c =
    let few = objects_entry_few (seen_of c.self.inside) c.in_ok-class.class c.self.inside.held_pages.counts c.self.inside.class_objects.counts
    (is_class (goal.at.raise-requires-2 c).After-occupy) c.self.invariant.0 c.sound.ensures c.self.invariant.1 in omega (arith, few)

pub invariant_of-self : goal.invariant_of-self
invariant_of-self c = (
  (left (goal.at.invariant_of-self c).After-occupy).0,
  rw (c.raise.ensures, c.raise-2.ensures) (occupied_counts c.self.inside.spans c.occupy.new.self c.in_ok-class.class c.in-Some.place.0 c.in-Some.place.1
      c.self.inside.next_serial c.args.len c.empty_pages_at-pages.result c.self.inside.held_pages.counts c.self.inside.class_objects.counts
      (is_class (goal.at.invariant_of-self c).After-occupy) c.in-Some.ensures.vacant c.empty_pages_at-pages.ensures.value
      (record { spans = c.occupy.ensures.spans; groups = c.occupy.ensures.groups; table = c.occupy.ensures.table; closed = c.occupy.ensures.closed })
      c.self.invariant.1),
)

pub returns-clause-made : goal.returns-clause-made
returns-clause-made c = rw (← c.self.view_is) (left (goal.at.returns-clause-made c).After-occupy).1
