-- What is seen of the fields of a page heap.
use Rattle.mesh_page_heap.specs.PageHeap.{PageHeap}
use Rattle.mesh_page_heap.specs.declared.page_heap.PageHeap.TheInside.{Inside}

-- the page heap that has these fields
abbrev pub seen_of : Inside → PageHeap
seen_of inside = record {
  arena = inside.store.arena;
  map = inside.store.map;
  index = inside.spans;
  next_page = inside.next_page;
  meshes = inside.meshes.items;
}
