-- How many pages the objects of a class need, and how many bytes these pages have.
use Rattle.std.specs.Prelude.{ℕ, ◌+◌, ◌-◌, ◌*◌, ◌/◌, ◌≤◌, map, sum, sum_by}
use Rattle.model_heap.specs.Sound.{IsSound}
use Rattle.model_heap.specs.Table.{Table}
use Rattle.model_words.specs.Classes.{pages_of, slots_of, table}
use Rattle.mesh_spans.specs.Counts.{byte_count}
use Rattle.savings_replay.specs.ClassCounts.{class_objects, held_pages}

-- the pages of the fewest spans of a class that have slots for `objects` objects
abbrev pub pages_needed : ℕ → ℕ → ℕ
pages_needed class objects = ((objects + slots_of class - 1) / slots_of class) * pages_of class

-- in each class, the groups with an object have at least the pages that their objects need
abbrev pub FitsPages : Table → Type 0
FitsPages t = (class : ℕ) → pages_needed class (class_objects t class) ≤ held_pages t class

-- if a table is sound, the groups of each class that have an object have at least the pages that their objects need
abbrev pub ObjectsFitPages : Type 0
ObjectsFitPages = (t : Table) → IsSound t → FitsPages t

-- if a table is sound, the bytes of all its objects are at most those of the pages that the objects of the classes need
abbrev pub BytesFitPages : Type 0
BytesFitPages = (t : Table) → IsSound t
    → sum_by byte_count t.groups ≤ 4096 * sum (map (λ row. pages_needed row.size (class_objects t row.size)) table)
