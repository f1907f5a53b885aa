-- What a mesher's call leaves unchanged in a book.
use Rattle.std.specs.Prelude.{◌≡◌}
use Rattle.mesh_mutator.specs.Book.{Book, memory_of_book}
use Rattle.mesh_steps.specs.HeapMeshes.{KeepsMeaning}

-- nothing but the heap may have changed. The heap's meaning and the memory that the book means are unchanged
pub record KeepsBook (old new : Book) : Type 0 where
  pub others : new ≡ record old { heap = new.heap }
  pub memory : memory_of_book new ≡ memory_of_book old
  pub heap : KeepsMeaning old.heap new.heap
