use Rattle.mesh_page_heap.proofs.LiveObjects.{places_apart, read_only}
use Rattle.mesh_steps.proofs.AlwaysHolds.{heap_held_taken, heap_objects_apart}
use Rattle.mesh_steps.proofs.heap.Heap.always.Goals as goal

pub returns-clause-objects : goal.returns-clause-objects
returns-clause-objects c = rw (← c.self.view_is) (heap_objects_apart _ c.self.invariant)

pub returns-clause-places : goal.returns-clause-places
returns-clause-places c =
    let pages = c.self.inside.pages in
    rw (← c.self.view_is) (places_apart pages.arena pages.map pages.index pages.next_page pages.meshes c.sound.ensures.index c.sound.ensures.pages)

pub returns-clause-held : goal.returns-clause-held
returns-clause-held c = rw (← c.self.view_is) (heap_held_taken _ c.self.inside.next_serial c.sound.ensures.index c.sound.ensures.pages)

pub returns-clause-read_only : goal.returns-clause-read_only
returns-clause-read_only c =
    let pages = c.self.inside.pages in
    rw (← c.self.view_is) (read_only pages.arena pages.map pages.index pages.next_page pages.meshes c.sound.ensures.index c.sound.ensures.pages)

pub returns-clause-laid_out : goal.returns-clause-laid_out
returns-clause-laid_out c = rw (← c.self.view_is) c.sound.ensures.pages.laid_out
