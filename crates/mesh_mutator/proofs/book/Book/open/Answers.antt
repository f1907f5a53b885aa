use Rattle.std.proofs.Common.{◌≡◌, ℕ, zero, suc, Option, Some, None, List, [], ◌∷◌, length, replicate, refl, sym, ap, ◌∙◌, arith}
use Rattle.std.proofs.Math.ListN.{length-replicate}
use Rattle.model_memory.specs.Memory.{Memory, empty_memory}
use Rattle.mesh_mutator.specs.Book.{Cells, cell_at, memory_in, serials_of}
use Rattle.mesh_steps.specs.Heap.{Heap, memory_of}
use Rattle.mesh_steps.specs.declared.answers.Ref.{Ref}
use Rattle.mesh_mutator.proofs.book.Book.open.Goals as goal

-- an empty cell holds nothing
none_held : (n cell : ℕ) (object : Ref) → cell_at (replicate n None) cell ≡ Some object → ⊥
none_held zero cell object at = cc at
none_held (suc n) zero object at = cc at
none_held (suc n) (suc cell) object at = none_held n cell object at

-- empty cells hold no serials
none_named : (n : ℕ) → serials_of (replicate n None) ≡ replicate n None
none_named zero = refl
none_named (suc n) = ap (λ (xs : List (Option ℕ)). None ∷ xs) (none_named n)

-- a heap with no object and empty cells stand for the empty memory
empty_is : (h : Heap) (cells : Cells) → ((roots : List (Option ℕ)) → memory_of h roots ≡ record { objects = []; roots = roots })
    → cells ≡ replicate 256 None → memory_in h cells ≡ empty_memory
empty_is h cells memory none = memory (serials_of cells) ∙ ap {B = Memory} (λ (roots : List (Option ℕ)). record { objects = []; roots = roots })
    (ap (λ (cs : Cells). serials_of cs) none ∙ none_named 256)

pub returns-clause-memory : goal.returns-clause-memory
returns-clause-memory c = empty_is c.in_ok-heap.heap c.new.result c.in_ok-heap.ensures.memory c.new.ensures

pub invariant_of-result : goal.invariant_of-result
invariant_of-result c = record {
  cells = ap (λ (cs : Cells). length cs) c.new.ensures ∙ length-replicate {A = Option Ref} 256 None;
  rooted = λ cell object at. absurd (none_held 256 cell object (ap (λ (cs : Cells). cell_at cs cell) (sym c.new.ensures) ∙ at));
  legal = rw c.in_ok-journal.ensures.entries (empty_is c.in_ok-heap.heap c.new.result c.in_ok-heap.ensures.memory c.new.ensures);
  short = rw c.in_ok-journal.ensures.entries (omega arith);
  limit = rw c.in_ok-journal.ensures.room c.requires.limit;
  serials = rw (c.in_ok-journal.ensures.entries, c.in_ok-heap.ensures.serial) (omega arith);
}
