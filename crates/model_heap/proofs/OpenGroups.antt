-- Which groups take new objects.
use Rattle.std.proofs.Common.{arith, ◌≡◌, ◌↔◌, ◌<◌, ℕ, Some, find, length, true, false}
use Rattle.model_heap.proofs.GroupLists.{find_passes}
use Rattle.model_heap.specs.Table.{Group, Table, is_meshing, is_open, object_count}

-- a group is open exactly where it is of the class and in no mesh, and a slot is free
pub open_tests : (t : Table) (class : ℕ) (g : Group)
    → (is_open t class g ≡ true) ↔ ((g.class ≡ class) × (is_meshing t g.number ≡ false) × (object_count g < length g.slots))
open_tests t class g = grind arith

-- the group that is found for a new object is open
pub found_open : (t : Table) (class : ℕ) (g : Group) → find (is_open t class) t.groups ≡ Some g → is_open t class g ≡ true
found_open t class g found = find_passes (is_open t class) t.groups g found
