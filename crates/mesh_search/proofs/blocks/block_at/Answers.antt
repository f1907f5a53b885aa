use Rattle.std.proofs.Common.{◌≡◌, ℕ, ◌+◌, ◌<◌, ◌≤◌, List, length, take, arith}
use Rattle.std.specs.List.{flat_map}
use Rattle.std.specs.Vec.{vec_items}
use Rattle.std.proofs.lemmas.List.{take_all}
use Rattle.mesh_search.proofs.blocks.block_at.Goals as goal

-- where the blocks before k have no element of a place, there is a block k
block_left : {X : Type 0} (f : X → List ℕ) (xs : List X) (k left place : ℕ)
    → place < length (flat_map f xs) → length (flat_map f (take k xs)) + left ≡ place → k ≤ length xs → k < length xs
block_left f xs k left place inside at most = grind (arith, take_all)

pub bounds-blocks-k : goal.bounds-blocks-k
bounds-blocks-k c = block_left vec_items c.args.blocks.now c.loop-left.k c.loop-left.left c.args.place c.requires c.loop-left.invariant.0 c.loop-left.invariant.1
