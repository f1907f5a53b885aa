use Rattle.std.proofs.Common.{◌≡◌, ℕ, ◌+◌, ◌-◌, ◌≤◌, length, ap, sym, ◌∙◌, arith}
use Rattle.mesh_page_heap.proofs.Insides.{seen_of}
use Rattle.mesh_page_heap.proofs.NewPlaces.{IsAdded, IsFreshSpan_added, grown}
use Rattle.mesh_page_heap.specs.PageHeap.{PageHeap}
use Rattle.mesh_page_heap.proofs.page_heap.PageHeap.add_span.Goals as goal
use Rattle.mesh_page_heap.proofs.page_heap.PageHeap.add_span.Goals.{After-self-1}

abbrev after : After-self-1 → PageHeap
after c = record {
  arena = c.take_pages-pages.new.arena;
  map = c.map_pages.new.map;
  index = c.add_span.new.self;
  next_page = c.self.inside.next_page + c.pages-count.result;
  meshes = c.self.inside.meshes.items;
}

pub overflow_sub-self-inside : goal.overflow_sub-self-inside
overflow_sub-self-inside c = c.self.invariant.most

pub add_span-requires-clause-first : goal.add_span-requires-clause-first
add_span-requires-clause-first c = c.self.invariant.some

last_page : (next count n : ℕ) → next ≤ 65536 → count ≤ 65536 - next → n ≡ count → next + n ≤ 65536
last_page next count n most room same = omega arith

pub add_span-requires-clause-last : goal.add_span-requires-clause-last
add_span-requires-clause-last c =
    last_page c.self.inside.next_page c.pages-count.result _ c.self.invariant.most c.if-self-count.false (sym c.pages-count.ensures.value)

pub add_span-requires-clause-unused : goal.add_span-requires-clause-unused
add_span-requires-clause-unused c = c.self.invariant.unused

pub map_pages-requires-clause-last : goal.map_pages-requires-clause-last
map_pages-requires-clause-last c =
    last_page c.self.inside.next_page c.pages-count.result _ c.self.invariant.most c.if-self-count.false
    (ap length c.as_slice-in-Ok.ensures.value ∙ c.take_pages-pages.ensures.count)

pub map_pages-requires-clause-unmapped : goal.map_pages-requires-clause-unmapped
map_pages-requires-clause-unmapped c = c.self.invariant.fresh

-- the span was added over the pages that were taken and mapped
added : (c : After-self-1) → IsAdded (seen_of c.self.inside) (after c) c.args.class c.in-Ok.span c.take_pages-pages.result.items
added c = grind arith

pub invariant_of-self : goal.invariant_of-self
invariant_of-self c =
    (grown _ _ _ c.in-Ok.span c.take_pages-pages.result.items c.pages-count.ensures.class c.self.invariant c.sound.ensures (added c)).0

pub invariant_of-self-in-Err : goal.invariant_of-self-in-Err
invariant_of-self-in-Err c = grind arith

pub returns-in-Ok-clause-ok : goal.returns-in-Ok-clause-ok
returns-in-Ok-clause-ok c =
    rw (← c.self.view_is) (IsFreshSpan_added (seen_of c.self.inside) (after c) c.args.class c.in-Ok.span c.take_pages-pages.result.items c.pages-count.ensures.class
    c.self.invariant c.sound.ensures (added c))

pub returns-in-Err-clause-err : goal.returns-in-Err-clause-err
returns-in-Err-clause-err c = grind arith
