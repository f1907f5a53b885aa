-- What a new span adds to an index.
use Rattle.std.specs.Prelude.{◌≡◌, ℕ, ◌<◌, List, [], ◌∷◌, ◌++◌, Some, length}
use Rattle.mesh_class.specs.Classes.{pages_of, slots_of}
use Rattle.model_heap.specs.Table.{fresh_group}
use Rattle.mesh_spans.specs.Groups.{groups_of}
use Rattle.mesh_spans.specs.Index.{Index, IsVacant, new_group, new_span}

-- a span of the class was added, from virtual page `first` on. Its new group has the physical pages of one span and no
-- object
pub record IsAdded (old new : Index) (class first span : ℕ) : Type 0 where
  pub pages : List ℕ
  pub count : length pages ≡ pages_of class
  pub number : span ≡ length old.spans
  pub spans : new.spans ≡ old.spans ++ new_span first class span ∷ []
  pub groups : new.groups ≡ old.groups ++ Some (new_group class span pages) ∷ []
  pub table : groups_of new ≡ groups_of old ++ fresh_group span class first ∷ []
  pub vacant : (k : ℕ) → k < slots_of class → IsVacant new class span k
