use Rattle.std.proofs.Common.{refl}
use Rattle.mesh_page_heap.proofs.PageHeapBytes.{page_heap_open}
use Rattle.mesh_spans.specs.Groups.{groups_of}
use Rattle.mesh_page_heap.proofs.page_heap.PageHeap.open.Goals as goal

pub invariant_of-result : goal.invariant_of-result
invariant_of-result c = rw c.new-2.ensures (page_heap_open _ _ c.in_ok-spans.spans c.in_ok-store.ensures.unmapped c.in_ok-spans.ensures.spans c.in_ok-spans.ensures.groups)

pub returns : goal.returns
unfolding groups_of
returns c = record {
  table = rw (c.new-2.ensures, c.in_ok-spans.ensures.spans, c.in_ok-spans.ensures.groups, c.in_ok-store.ensures.free) refl;
  pages = c.in_ok-store.ensures.pages;
}
