-- Which bin a group is in: each class has three bins, for its empty, its partly filled and its full groups.
use Rattle.std.specs.Prelude.{◌≡◌, ◌⊎◌, ℕ, ◌+◌, ◌*◌, ◌<◌, Bool, false, not, ◌&&◌, if◌then◌else◌, nat_eq, nat_le, nat_lt, count_by, is_some, filter, List, Option, Some, None, IfSome, length, slice_index_or, slice_set}
use Rattle.std.specs.Ordering.{nat_cmp}
use Rattle.std.specs.FinSet as set
use Rattle.mesh_class.specs.Class.{class_index}
use Rattle.model_search.specs.Search.{may_be_paired}
use Rattle.model_heap.specs.Table.{Group}
use Rattle.mesh_spans.specs.declared.fullness.Fullness.{Fullness}
use Rattle.mesh_spans.specs.declared.fullness.Fullness.TheVariants.{Empty, Full, Partial}
use Rattle.mesh_spans.specs.Groups.{groups_of, is_closed}
use Rattle.mesh_spans.specs.Index.{GroupEntry, Index, group_at}

-- the place, among the three bins of a class, of the bin for groups of this fullness
abbrev pub fullness_place : Fullness → ℕ
fullness_place Empty = 0
fullness_place Partial = 1
fullness_place Full = 2

-- the place, among the three bins of a class, of the bin for a group with `count` objects in `total` slots
abbrev pub kind_of : ℕ → ℕ → ℕ
kind_of count total = if nat_eq count 0 then 0 else (if nat_lt count total then 1 else 2)

-- the place of a group's bin, or `None` if the group is in a mesh or there is no group
abbrev pub file_of : Option GroupEntry → Option ℕ
file_of None = None
file_of (Some group) =
    if group.in_mesh then None else Some (3 * class_index group.class + kind_of (count_by is_some group.slots) (length group.slots))

-- whether there is a bin and it is at this place
abbrev pub is_at : Option ℕ → ℕ → Bool
is_at None place = false
is_at (Some file) place = nat_eq file place

-- the bin at a place, or an empty bin if no bin is there
abbrev pub bin_at : List (set.FinSet nat_cmp) → ℕ → set.FinSet nat_cmp
bin_at bins place = slice_index_or bins place set.empty

-- the bins after the number is removed from the bin at this place, if there is a place
abbrev pub unfiled : List (set.FinSet nat_cmp) → ℕ → Option ℕ → List (set.FinSet nat_cmp)
unfiled bins n None = bins
unfiled bins n (Some place) = slice_set bins place (set.remove (bin_at bins place) n)

-- the bins after the number is added to the bin at this place, if there is a place
abbrev pub filed : List (set.FinSet nat_cmp) → ℕ → Option ℕ → List (set.FinSet nat_cmp)
filed bins n None = bins
filed bins n (Some place) = slice_set bins place (set.insert (bin_at bins place) n)

-- there are 30 bins, the number is below 65,536, and its place, if it has one, is one of the 30
pub record HasPlace (bins : List (set.FinSet nat_cmp)) (n : ℕ) (place : Option ℕ) : Type 0 where
  pub number : n < 65536
  pub sized : length bins ≡ 30
  pub few : IfSome place (λ p. p < 30)

-- the new bins are the wanted ones, and there are 30 of them
pub record IsLeftWith (new wanted : List (set.FinSet nat_cmp)) : Type 0 where
  pub bins : new ≡ wanted
  pub sized : length new ≡ 30

-- a number is moved from one bin to another; if both are the same bin, nothing may change
abbrev pub AreMoved : List (set.FinSet nat_cmp) → List (set.FinSet nat_cmp) → ℕ → Option ℕ → Option ℕ → Type 0
AreMoved old new n from to = ((from ≡ to) × (new ≡ old)) ⊎ (new ≡ filed (unfiled old n from) n to)

-- there are 30 bins, and each contains a number if and only if it is the bin of that number's group
pub record IsFiled (groups : List (Option GroupEntry)) (bins : List (set.FinSet nat_cmp)) : Type 0 where
  pub sized : length bins ≡ 30
  pub each : (place n : ℕ) → place < 30 → set.contains (bin_at bins place) n ≡ is_at (file_of (group_at groups n)) place

-- the lower of two numbers, or the only one if one is missing
abbrev pub lower_of : Option ℕ → Option ℕ → Option ℕ
lower_of None b = b
lower_of (Some a) None = Some a
lower_of (Some a) (Some b) = if nat_lt a b then Some a else Some b

-- whether there is a group, of this class, in no mesh, and neither empty nor full
abbrev pub is_partial : Option GroupEntry → ℕ → Bool
is_partial None class = false
is_partial (Some group) class =
    nat_eq group.class class && not group.in_mesh && nat_lt 0 (count_by is_some group.slots) && nat_lt (count_by is_some group.slots) (length group.slots)

-- whether the group may be paired and its number is at least `from`
abbrev pub candidate_from : (ℕ → Bool) → ℕ → ℕ → Group → Bool
candidate_from closed class from group = nat_le from group.number && may_be_paired closed class group

-- the groups that may be paired and whose number is at least `from`, ascending
abbrev pub candidates_from : Index → ℕ → ℕ → List Group
candidates_from index class from = filter (candidate_from (is_closed index) class from) (groups_of index)
