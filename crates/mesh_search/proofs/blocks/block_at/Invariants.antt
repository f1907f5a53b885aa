use Rattle.std.proofs.Common.{◌≡◌, ◌+◌, ◌-◌, ◌≤◌, length, take}
use Rattle.std.specs.List.{flat_map}
use Rattle.std.specs.Vec.{vec_items}
use Rattle.mesh_search.proofs.blocks.block_at.Given as goal

abbrev pub invariant-loop-left : goal.invariant-loop-left
invariant-loop-left l = (length (flat_map vec_items (take l.k l.blocks)) + l.left ≡ l.place) × (l.k ≤ length l.blocks)

abbrev pub decreases-loop-left : goal.decreases-loop-left
decreases-loop-left l = length l.blocks - l.k
