-- The pages of the groups with and without an object, and the objects of the groups of each class.
use Rattle.std.specs.Prelude.{◌≡◌, ℕ, if◌then◌else◌, nat_eq, List, Option, Some, None, count_by, filter, is_some, map, sum_by}
use Rattle.model_heap.specs.Table.{Group, Table, object_count}
use Rattle.model_words.specs.Classes.{pages_of, table}
use Rattle.mesh_spans.specs.Index.{GroupEntry}

-- the groups of a class
abbrev pub groups_in : Table → ℕ → List Group
groups_in t class = filter (λ g. nat_eq g.class class) t.groups

-- the physical pages of a group if it has an object, or 0
abbrev pub held_of : Group → ℕ
held_of g = if nat_eq (object_count g) 0 then 0 else pages_of g.class

-- the physical pages of a group if it has no object, or 0
abbrev pub empty_of : Group → ℕ
empty_of g = if nat_eq (object_count g) 0 then pages_of g.class else 0

-- the physical pages of the groups of a class that have an object
abbrev pub held_pages : Table → ℕ → ℕ
held_pages t class = sum_by held_of (groups_in t class)

-- the physical pages of all groups that have no object
abbrev pub empty_pages : Table → ℕ
empty_pages t = sum_by empty_of t.groups

-- the objects of the groups of a class
abbrev pub class_objects : Table → ℕ → ℕ
class_objects t class = sum_by object_count (groups_in t class)

-- the number of objects of a group of the index
abbrev pub entry_objects : GroupEntry → ℕ
entry_objects group = count_by is_some group.slots

-- the number of physical pages of a group of the index if it has an object, or 0
abbrev pub entry_held : GroupEntry → ℕ
entry_held group = if nat_eq (entry_objects group) 0 then 0 else pages_of group.class

-- the number of physical pages of a group of the index if it has no object, or 0
abbrev pub entry_empty : GroupEntry → ℕ
entry_empty group = if nat_eq (entry_objects group) 0 then pages_of group.class else 0

-- the count of a group of the index, or 0 if there is no group
abbrev pub amount : (GroupEntry → ℕ) → Option GroupEntry → ℕ
amount count None = 0
amount count (Some group) = count group

-- the count of a group of the index, or 0 if there is no group or it has another class
abbrev pub counted_for : (GroupEntry → ℕ) → ℕ → Option GroupEntry → ℕ
counted_for count class None = 0
counted_for count class (Some group) = if nat_eq group.class class then count group else 0

-- the sum of the counts of the index's groups of a class
abbrev pub class_count : (GroupEntry → ℕ) → List (Option GroupEntry) → ℕ → ℕ
class_count count groups class = sum_by (counted_for count class) groups

-- for each class, in the order of the class table, the sum of the counts of its groups
unfoldable pub count_by_class : (GroupEntry → ℕ) → List (Option GroupEntry) → List ℕ
count_by_class count groups = map (λ row. class_count count groups row.size) table

-- the two lists are, for the groups of each class, the number of physical pages of those with an object, and the number
-- of objects, in the order of the class table
pub record AreClassCounts (groups : List (Option GroupEntry)) (page_counts object_counts : List ℕ) : Type 0 where
  pub pages : page_counts ≡ count_by_class entry_held groups
  pub objects : object_counts ≡ count_by_class entry_objects groups
