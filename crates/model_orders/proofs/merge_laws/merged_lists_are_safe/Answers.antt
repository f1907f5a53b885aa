use Rattle.model_orders.specs.Merging.{after_all}
use Rattle.model_orders.proofs.Merged.{explained_moved, explained_right, moves_explained, start_explained}
use Rattle.model_orders.proofs.merge_laws.merged_lists_are_safe.Goals as goal

pub returns : goal.returns
returns c steps pages moves right start place =
    let e = moves_explained moves pages (λ x. start_explained steps (pages x) right (start x)) place in
    (explained_right (after_all moves pages place) e, explained_moved (after_all moves pages place) e)
