-- A book whose heap was meshed, and means what it meant.
use Rattle.std.proofs.Common.{ℕ, [], List, Result, Ok, Err, ap, subst, refl, sym, ◌∙◌, arith}
use Rattle.model_memory.specs.Memory.{Memory, object_of}
use Rattle.model_memory.specs.Plain.{Entry, IsLegal}
use Rattle.model_words.specs.declared.refusals.Refusal.{Refusal}
use Rattle.mesh_mutator.specs.Book.{Book, Cells, IsBook, serials_of}
use Rattle.mesh_mutator.specs.Mesher.{KeepsBook}
use Rattle.mesh_steps.specs.Heap.{Heap}
use Rattle.mesh_steps.specs.HeapMeshes.{IsAnswered, KeepsMeaning}

-- a book stays one
pub kept_book : (old new : Heap) (cells : Cells) (entries : List Entry) (room : ℕ) → KeepsMeaning old new
    → IsBook (record { heap = old; cells = cells; entries = entries; room = room }) → IsBook (record { heap = new; cells = cells; entries = entries; room = room })
kept_book old new cells entries room kept book = record {
  cells = book.cells;
  rooted = λ cell object at.
      let was = book.rooted cell object at in
      let serial = kept.serial in (
        omega (arith, was.0, serial),
        λ live is. was.1 live (sym (ap (λ (m : Memory). object_of m object.serial) (kept.memory [])) ∙ is),
      );
  legal = subst (λ (m : Memory). IsLegal entries m) (sym (kept.memory (serials_of cells))) book.legal;
  short = book.short;
  limit = book.limit;
  serials = let serial = kept.serial in let few = book.serials in omega (arith, serial, few);
}

-- and its heap alone may have changed
pub keeps_book : (old new : Heap) (cells : Cells) (entries : List Entry) (room : ℕ) → KeepsMeaning old new
    → KeepsBook (record { heap = old; cells = cells; entries = entries; room = room }) (record { heap = new; cells = cells; entries = entries; room = room })
keeps_book old new cells entries room kept = record { others = refl; memory = kept.memory (serials_of cells); heap = kept }

-- what the heap's call answers is the book's answer
pub book_answered : {X Y : Type 0} (old new : Heap) (cells : Cells) (entries : List Entry) (room : ℕ) (wanted : Result Y Refusal) (r : Result X Refusal)
    (IsMade : X → Type 0) → IsAnswered KeepsMeaning old new wanted r IsMade
    → IsAnswered KeepsBook (record { heap = old; cells = cells; entries = entries; room = room })
    (record { heap = new; cells = cells; entries = entries; room = room }) wanted r IsMade
book_answered old new cells entries room wanted (Ok x) IsMade is = record {
  made = is.made;
  refused = is.refused;
  kept = keeps_book old new cells entries room is.kept;
}
book_answered old new cells entries room wanted (Err refusal) IsMade is = record {
  made = is.made;
  refused = (is.refused.0, ap (λ (h : Heap). book h) is.refused.1);
  kept = keeps_book old new cells entries room is.kept;
}
  where
    book : Heap → Book
    book h = record { heap = h; cells = cells; entries = entries; room = room }
