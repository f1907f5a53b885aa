-- What is counted of groups: their objects, the bytes of these objects, and the virtual pages of the groups' members.
use Rattle.std.specs.Prelude.{◌≡◌, ℕ, ◌+◌, ◌-◌, ◌*◌, ◌≤◌, List, Option, Some, None, count_by, is_some, length, sum_by}
use Rattle.mesh_class.specs.Classes.{pages_of}
use Rattle.model_heap.specs.Table.{Group, len_in}
use Rattle.mesh_spans.specs.Index.{GroupEntry}
use Rattle.mesh_spans.specs.declared.totals.Totals.{Totals}

-- the bytes of the group's objects
abbrev pub byte_count : Group → ℕ
byte_count group = sum_by len_in group.slots

-- the number of objects of a group of the index, 0 if there is no group
abbrev pub objects_in : Option GroupEntry → ℕ
objects_in None = 0
objects_in (Some group) = count_by is_some group.slots

-- the bytes of the objects of a group of the index, 0 if there is no group
abbrev pub bytes_in : Option GroupEntry → ℕ
bytes_in None = 0
bytes_in (Some group) = sum_by len_in group.slots

-- the virtual pages of the members of a group of the index, 0 if there is no group
abbrev pub mapped_in : Option GroupEntry → ℕ
mapped_in None = 0
mapped_in (Some group) = length group.members * pages_of group.class

-- the counts of a group, all 0 if there is no group
abbrev pub counts_of : Option GroupEntry → Totals
counts_of group = record { objects = objects_in group; bytes = bytes_in group; mapped = mapped_in group }

-- the counts with the counts of one group added
abbrev pub with_group : Totals → Totals → Totals
with_group totals group = record {
  objects = totals.objects + group.objects;
  bytes = totals.bytes + group.bytes;
  mapped = totals.mapped + group.mapped;
}

-- the counts with the counts of one group subtracted
abbrev pub without_group : Totals → Totals → Totals
without_group totals group = record {
  objects = totals.objects - group.objects;
  bytes = totals.bytes - group.bytes;
  mapped = totals.mapped - group.mapped;
}

-- no count of `part` is above the same count of `whole`
pub record IsPart (part whole : Totals) : Type 0 where
  pub objects : part.objects ≤ whole.objects
  pub bytes : part.bytes ≤ whole.bytes
  pub mapped : part.mapped ≤ whole.mapped

-- the counts are within the bounds for `groups` groups: each group has at most 256 slots, 3 pages of objects and 8
-- members of 3 pages
pub record IsWithin (groups : ℕ) (totals : Totals) : Type 0 where
  pub objects : totals.objects ≤ groups * 256
  pub bytes : totals.bytes ≤ groups * 12288
  pub mapped : totals.mapped ≤ groups * 24

-- the counts are the sums over all groups
pub record IsCounted (groups : List (Option GroupEntry)) (totals : Totals) : Type 0 where
  pub objects : totals.objects ≡ sum_by objects_in groups
  pub bytes : totals.bytes ≡ sum_by bytes_in groups
  pub mapped : totals.mapped ≡ sum_by mapped_in groups
