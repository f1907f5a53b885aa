use Rattle.std.proofs.Common.{◌≡◌, ◌+◌, ◌%◌, ◌<◌, arith, refl, subst, sym, ◌∙◌}
use Rattle.mesh_class.specs.Classes.{slots_of}
use Rattle.savings_replay.proofs.ClassChanges.{objects_entry_few, pages_entry_few, spanned_counts}
use Rattle.savings_replay.proofs.Kept.{seen_of}
use Rattle.savings_replay.proofs.Placed.{kept_span, made_span}
use Rattle.savings_replay.specs.Placement.{GoesToSpan, Placement, table_of}
use Rattle.savings_replay.proofs.placement.Placement.new_in_span.Goals as goal
use Rattle.savings_replay.proofs.placement.Placement.new_in_span.Goals.{After-occupy}

-- the placement with the new span and the object in it
abbrev after : After-occupy → Placement
after c = record {
  index = c.occupy.new.self;
  next_page = c.self.inside.next_page + c.pages-count.result;
  taken_pages = c.self.inside.taken_pages + c.pages-count.result;
  next_serial = c.self.inside.next_serial + 1;
}

goes_inside : (c : After-occupy) → GoesToSpan (table_of (seen_of c.self.inside)) c.args.len c.args.class
goes_inside c = subst (λ (p : Placement). GoesToSpan (table_of p) c.args.len c.args.class) (sym c.self.view_is) c.requires.goes

slot_is : (c : After-occupy) → c.numbered-slot.result ≡ c.args.word % slots_of c.args.class
slot_is c =
    let from = c.from.ensures in
    c.numbered-slot.ensures ∙ rw (from, c.slots.ensures.value) refl

slot_within : (c : After-occupy) → c.numbered-slot.result < slots_of c.args.class
slot_within c = let is = slot_is c in let some = c.pages-count.ensures.class.some_slot in rw is (omega (arith, some))

pub raise-requires : goal.raise-requires
raise-requires c =
    let few = pages_entry_few (seen_of c.self.inside) c.args.class c.self.inside.held_pages.counts c.self.inside.class_objects.counts
    c.pages-count.ensures.class
    c.self.invariant.0 c.self.invariant.1 in
    let count = c.pages-count.ensures.value in let three = c.pages-count.ensures.class.few_pages in omega (arith, few, count, three)

pub raise-requires-2 : goal.raise-requires-2
raise-requires-2 c =
    let few = objects_entry_few (seen_of c.self.inside) c.args.class c.self.inside.held_pages.counts c.self.inside.class_objects.counts
    c.pages-count.ensures.class
    c.self.invariant.0 c.sound.ensures c.self.invariant.1 in omega (arith, few)

pub invariant_of-self-2 : goal.invariant_of-self-2
invariant_of-self-2 c =
    let at = (goal.at.invariant_of-self-2 c).After-occupy in (
      kept_span (seen_of c.self.inside) c.add_span.new.spans c.occupy.new.self c.args.class c.args.len c.args.word c.in-Ok.span c.numbered-slot.result
          c.pages-count.result c.self.invariant.0 c.sound.ensures c.pages-count.ensures.class (goes_inside at) c.pages-count.ensures.value
          c.if-self-count.false c.if-self-count-2.false c.in-Ok.ensures.added (slot_is at)
          (record { spans = c.occupy.ensures.spans; groups = c.occupy.ensures.groups; table = c.occupy.ensures.table; closed = c.occupy.ensures.closed }),
      rw (c.raise.ensures, c.raise-2.ensures) (spanned_counts c.self.inside.spans c.add_span.new.spans c.occupy.new.self c.args.class c.self.inside.next_page
          c.in-Ok.span
          c.numbered-slot.result c.self.inside.next_serial c.args.len c.pages-count.result c.self.inside.held_pages.counts c.self.inside.class_objects.counts
          c.pages-count.ensures.class c.pages-count.ensures.value (slot_within at) c.sound.ensures c.in-Ok.ensures.added
          (record { spans = c.occupy.ensures.spans; groups = c.occupy.ensures.groups; table = c.occupy.ensures.table; closed = c.occupy.ensures.closed })
          c.self.invariant.1),
    )

pub returns-clause-made : goal.returns-clause-made
returns-clause-made c =
    let at = (goal.at.returns-clause-made c).After-occupy in
    rw (← c.self.view_is) (made_span (seen_of c.self.inside) c.add_span.new.spans c.occupy.new.self c.args.class c.args.len c.args.word c.in-Ok.span
    c.numbered-slot.result
    c.pages-count.result c.self.invariant.0 c.sound.ensures c.pages-count.ensures.class (goes_inside at) c.pages-count.ensures.value
    c.if-self-count.false c.if-self-count-2.false c.in-Ok.ensures.added (slot_is at)
    (record { spans = c.occupy.ensures.spans; groups = c.occupy.ensures.groups; table = c.occupy.ensures.table; closed = c.occupy.ensures.closed }))
