use Rattle.std.proofs.Common.{◌≡◌, ℕ, ◌+◌, ◌<◌, ◌++◌, List, length, take, get_or}
use Rattle.std.specs.List.{flat_map}
use Rattle.std.specs.Vec.{vec_items}
use Rattle.std.proofs.lemmas.List.{take_more, flat_map_more}
use Rattle.mesh_search.proofs.blocks.add_blocks.Goals as goal

-- the lists of one element more, after others
lists_more : {X A : Type 0} (f : X → List A) (xs : List X) (before ys zs slice : List A) (k : ℕ) (x : X) → k < length xs → x ≡ get_or xs k x → slice ≡ f x
    → ys ≡ before ++ flat_map f (take k xs) → zs ≡ ys ++ slice → zs ≡ before ++ flat_map f (take (k + 1) xs)
lists_more f xs before ys zs slice k x below at value so_far extended =
    let more = take_more xs k x below in
    let joined = flat_map_more f before (take k xs) (get_or xs k x) in
    cc

pub loop-block-preserved : goal.loop-block-preserved
loop-block-preserved c =
    lists_more vec_items c.args.blocks.now c.args.order.now.items c.loop-block.order.items _ c.as_slice.result.now c.loop-block.block-index c.block-item.result
    c.loop-block-test.true c.block-item.is c.as_slice.ensures.value c.loop-block.invariant c.in_ok-extend_from_slice.ensures.items
