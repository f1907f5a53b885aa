-- The pages of perfect packing that are kept from call to call.
use Rattle.std.specs.Prelude.{◌≡◌, ℕ, ◌<◌, List, length, map, slice_index}
use Rattle.model_words.specs.Classes.{table}
use Rattle.savings_replay.specs.ClassLaws.{pages_needed}

-- what a contract sees of `Perfect`: the number of objects of each class, and the pages that they need
pub record Perfect : Type 0 where
  pub objects : List ℕ
  pub pages : List ℕ

-- the sizes of the classes, in the order of the class table
abbrev pub sizes : List ℕ
sizes = map (λ row. row.size) table

-- the pages of each class are those of the fewest spans that can contain so many objects
pub record AreNeeded (objects pages : List ℕ) : Type 0 where
  pub objects_are : length objects ≡ 10
  pub pages_are : length pages ≡ 10
  pub each : (k : ℕ) → k < 10 → slice_index pages k ≡ pages_needed (slice_index sizes k) (slice_index objects k)
